-- Each step of a pass keeps the rule of the queue, and what the rule tells.
use Rattle.std.proofs.Common.{◌≡◌, ◌≢◌, ℕ, suc, ◌-◌, ◌<◌, true, true≢false, List, [], ◌∷◌, ◌++◌, length, set, sym, refl, ap, ◌∙◌, subst, ⊎_elim, append_assoc, arith}
use Rattle.std.specs.Prelude.{Option, Some, None}
use mathlib.Core.Option.{some, some-ne-none}
use lib.ListN.{get_elem?}
use Rattle.crossbeam_queue.specs.Fifo.{Pushes, Pops, Forks, Merges, Learns}
use Rattle.crossbeam_queue.proofs.Lists.{at_set}
use Rattle.df_shardqueue.specs.declared.view.View.{View}
use Rattle.df_shardqueue.specs.Placed.{StandsIn, Rises, weigh, below}
use Rattle.df_shardqueue.specs.Shares.{Share, IsAll, units, total}
use Rattle.df_shardqueue.specs.Kept.{Kept, Knows, HaveMark, Pushed, Popped, at_first, fresh, halved, is_chosen, joined, seen, share_of, spent, told}
use Rattle.df_shardqueue.proofs.TotalLemmas.{AtEach, each_set, each_snoc, total_set, total_same, total_both, total_moved, total_snoc, total_at, total_two, total_alone, total_double}
use Rattle.df_shardqueue.proofs.ShareLemmas.{doubled_none, doubled_some, none_of, units_suc, units_half, units_together, units_all, together_deep, together_some}
use Rattle.df_shardqueue.proofs.PlaceLemmas.{each_of, each_more, each_mid, length_more, is, is_full, rises, below_is, below_ones, weigh_more, weigh_ones, stands_longer, stands_last, all_below, climbs_more, merged_each, merged_climbs, merged_weigh}

some_none : {A : Type 0} (x : A) → Some x ≡ None → ⊥
some_none x e = grind (arith, e)

some_of : {K : Type 0} (m : Option K) → is_chosen m ≡ true → (k : K) × (m ≡ Some k)
some_of None e = absurd (true≢false (sym e))
some_of (Some k) e = (k, refl)

whole_some : (s : Share) → IsAll s → 0 < s.part
whole_some s whole = let e = doubled_some 1 s.cuts (omega arith) in omega (arith, e, whole)

module _ {M K : Type 0} where
  longer : (chosen : Option K) (all gone more : List M) (depth : ℕ) (v : View M K) → Knows chosen all gone depth v → Knows chosen (all ++ more) gone depth v
  longer chosen all gone more depth v k =
      record {
        named = k.named;
        sent_idle = k.sent_idle;
        taken_idle = k.taken_idle;
        deep = k.deep;
        sent_climbs = k.sent_climbs;
        taken_climbs = k.taken_climbs;
        sent_stands = each_of (StandsIn all) (StandsIn (all ++ more)) (stands_longer all more) v.sent k.sent_stands;
        taken_stands = k.taken_stands;
      }

  more_gone : (chosen : Option K) (all gone more : List M) (depth : ℕ) (v : View M K) → Knows chosen all gone depth v → Knows chosen all (gone ++ more) depth v
  more_gone chosen all gone more depth v k =
      record {
        named = k.named;
        sent_idle = k.sent_idle;
        taken_idle = k.taken_idle;
        deep = k.deep;
        sent_climbs = k.sent_climbs;
        taken_climbs = k.taken_climbs;
        sent_stands = k.sent_stands;
        taken_stands = each_of (StandsIn gone) (StandsIn (gone ++ more)) (stands_longer gone more) v.taken k.taken_stands;
      }

  deeper : (chosen : Option K) (all gone : List M) (depth : ℕ) (v : View M K) → Knows chosen all gone depth v → Knows chosen all gone (suc depth) v
  deeper chosen all gone depth v k =
      record {
        named = k.named;
        sent_idle = k.sent_idle;
        taken_idle = k.taken_idle;
        deep = let low = k.deep in omega (arith, low);
        sent_climbs = k.sent_climbs;
        taken_climbs = k.taken_climbs;
        sent_stands = k.sent_stands;
        taken_stands = k.taken_stands;
      }

  -- another mark, where the pass has no part
  renamed : (chosen chosen' : Option K) (all gone : List M) (depth : ℕ) (v : View M K) → v.part ≡ 0 → Knows chosen all gone depth v → Knows chosen' all gone depth v
  renamed chosen chosen' all gone depth v none k =
      record {
        named = λ has. absurd (omega (arith, none, has));
        sent_idle = k.sent_idle;
        taken_idle = k.taken_idle;
        deep = k.deep;
        sent_climbs = k.sent_climbs;
        taken_climbs = k.taken_climbs;
        sent_stands = k.sent_stands;
        taken_stands = k.taken_stands;
      }

  spent_knows : (chosen : Option K) (all gone : List M) (depth : ℕ) → Knows chosen all gone depth spent
  spent_knows chosen all gone depth =
      record {
        named = λ has. absurd (omega (arith, has));
        sent_idle = λ _. refl;
        taken_idle = λ _. refl;
        deep = omega arith;
        sent_climbs = tt;
        taken_climbs = tt;
        sent_stands = tt;
        taken_stands = tt;
      }

  module _ (mark : M → K) where
    pub begins : Kept mark [] (at_first ∷ [])
    begins =
        record {
          chosen = None;
          gone = [];
          depth = 0;
          marked = tt;
          known = each_snoc (Knows None [] [] 0) [] at_first
              record {
                named = λ _. refl;
                sent_idle = λ _. refl;
                taken_idle = λ _. refl;
                deep = omega arith;
                sent_climbs = tt;
                taken_climbs = tt;
                sent_stands = tt;
                taken_stands = tt;
              }
              (λ i x at. absurd (some-ne-none x (sym at)));
          sent_once = λ h. refl;
          taken_once = λ h. refl;
          shared = refl;
        }

    pub pushes : (n port : ℕ) (v : View M K) (x : M) → 0 < v.part → v.mark ≡ Some (mark x) → Pushes (Kept mark) n port v x (Pushed v x)
    pushes n port v x has is_mark items views room h at =
        let all : List M = h.gone ++ items in
        let mine = h.known port v at in
        let w : View M K = seen v.mark (share_of v) (v.sent ++ (length all, x) ∷ []) v.taken in
        let assoc : all ++ x ∷ [] ≡ h.gone ++ (items ++ x ∷ []) = append_assoc h.gone items (x ∷ []) in
        let size : suc (length all) ≡ length (h.gone ++ (items ++ x ∷ [])) = sym (length_more all x) ∙ ap length assoc in
        let here : Knows h.chosen (all ++ x ∷ []) h.gone h.depth w =
        record {
          named = mine.named;
          sent_idle = λ none. absurd (omega (arith, has, none));
          taken_idle = mine.taken_idle;
          deep = mine.deep;
          sent_climbs = climbs_more v.sent (length all, x) mine.sent_climbs (all_below all v.sent mine.sent_stands);
          taken_climbs = mine.taken_climbs;
          sent_stands = each_more (StandsIn (all ++ x ∷ [])) v.sent (length all, x) (each_of (StandsIn all) (StandsIn (all ++ x ∷ [])) (stands_longer all (x ∷ [])) v.sent mine.sent_stands) (stands_last all x);
          taken_stands = mine.taken_stands;
        } in (
          w,
          record {
            chosen = h.chosen;
            gone = h.gone;
            depth = h.depth;
            marked = subst (HaveMark mark h.chosen) assoc (each_more (λ y. Some (mark y) ≡ h.chosen) all x h.marked (sym is_mark ∙ mine.named has));
            known = subst (λ (l : List M). AtEach (Knows h.chosen l h.gone h.depth) (set views port w)) assoc
                (each_set (Knows h.chosen (all ++ x ∷ []) h.gone h.depth) views port w here (λ j u _ at'. longer h.chosen all h.gone (x ∷ []) h.depth u (h.known j u at')));
            sent_once = λ f. (let a = total_set (λ (u : View M K). weigh f u.sent) views port v w at in let b = weigh_more f v.sent (length all, x) in let c = h.sent_once f in
                let sum : total (λ (u : View M K). weigh f u.sent) (set views port w) ≡ below f (suc (length all)) = omega (arith, a, b, c) in sum) ∙ ap (below f) size;
            taken_once = λ f. total_same (λ (u : View M K). weigh f u.taken) views port v w at refl ∙ h.taken_once f;
            shared = total_same (λ (u : View M K). units h.depth (share_of u)) views port v w at refl ∙ h.shared;
          },
          (refl, (length all, refl)),
        )

    pub pops : (port : ℕ) (v : View M K) → 0 < v.part → Pops (Kept mark) port v (Popped mark v)
    pops port v has x items views h at =
        let all : List M = h.gone ++ x ∷ items in
        let gone : List M = h.gone ++ x ∷ [] in
        let mine = h.known port v at in
        let w : View M K = seen v.mark (share_of v) v.sent (v.taken ++ (length h.gone, x) ∷ []) in
        let assoc : all ≡ gone ++ items = sym (append_assoc h.gone (x ∷ []) items) in
        let here : Knows h.chosen all gone h.depth w =
        record {
          named = mine.named;
          sent_idle = mine.sent_idle;
          taken_idle = λ none. absurd (omega (arith, has, none));
          deep = mine.deep;
          sent_climbs = mine.sent_climbs;
          taken_climbs = climbs_more v.taken (length h.gone, x) mine.taken_climbs (all_below h.gone v.taken mine.taken_stands);
          sent_stands = mine.sent_stands;
          taken_stands = each_more (StandsIn gone) v.taken (length h.gone, x) (each_of (StandsIn h.gone) (StandsIn gone) (stands_longer h.gone (x ∷ [])) v.taken mine.taken_stands) (stands_last h.gone x);
        } in (
          w,
          record {
            chosen = h.chosen;
            gone = gone;
            depth = h.depth;
            marked = subst (HaveMark mark h.chosen) assoc h.marked;
            known = subst (λ (l : List M). AtEach (Knows h.chosen l gone h.depth) (set views port w)) assoc
                (each_set (Knows h.chosen all gone h.depth) views port w here (λ j u _ at'. more_gone h.chosen all h.gone (x ∷ []) h.depth u (h.known j u at')));
            sent_once = λ f. total_same (λ (u : View M K). weigh f u.sent) views port v w at refl ∙ h.sent_once f ∙ ap (λ (l : List M). below f (length l)) assoc;
            taken_once = λ f. (let a = total_set (λ (u : View M K). weigh f u.taken) views port v w at in let b = weigh_more f v.taken (length h.gone, x) in let c = h.taken_once f in
                let sum : total (λ (u : View M K). weigh f u.taken) (set views port w) ≡ below f (suc (length h.gone)) = omega (arith, a, b, c) in sum) ∙ ap (below f) (sym (length_more h.gone x));
            shared = total_same (λ (u : View M K). units h.depth (share_of u)) views port v w at refl ∙ h.shared;
          },
          (mine.named has ∙ sym (each_mid (λ y. Some (mark y) ≡ h.chosen) h.gone x items h.marked), refl, (length h.gone, refl)),
        )

    pub halves : (port : ℕ) (v : View M K) → Forks (Kept mark) port v (halved v) (fresh v)
    halves port v items views h at =
        let all : List M = h.gone ++ items in
        let mine = h.known port v at in
        let left : Knows h.chosen all h.gone (suc h.depth) (halved v) =
        record {
          named = mine.named;
          sent_idle = mine.sent_idle;
          taken_idle = mine.taken_idle;
          deep = let low = mine.deep in omega (arith, low);
          sent_climbs = mine.sent_climbs;
          taken_climbs = mine.taken_climbs;
          sent_stands = mine.sent_stands;
          taken_stands = mine.taken_stands;
        } in
        let right : Knows h.chosen all h.gone (suc h.depth) (fresh v) =
        record {
          named = mine.named;
          sent_idle = λ _. refl;
          taken_idle = λ _. refl;
          deep = let low = mine.deep in omega (arith, low);
          sent_climbs = tt;
          taken_climbs = tt;
          sent_stands = tt;
          taken_stands = tt;
        } in
        let now = set views port (halved v) in
        let part : View M K → ℕ = λ u. units (suc h.depth) (share_of u) in
        let known = each_set (Knows h.chosen all h.gone (suc h.depth)) views port (halved v) left (λ j u _ at'. deeper h.chosen all h.gone h.depth u (h.known j u at')) in
        record {
          chosen = h.chosen;
          gone = h.gone;
          depth = suc h.depth;
          marked = h.marked;
          known = each_snoc (Knows h.chosen all h.gone (suc h.depth)) now (fresh v) right known;
          sent_once = λ f. let a = total_same (λ (u : View M K). weigh f u.sent) views port v (halved v) at refl in let b = total_snoc (λ (u : View M K). weigh f u.sent) now (fresh v) in let c = h.sent_once f in omega (arith, a, b, c);
          taken_once = λ f. let a = total_same (λ (u : View M K). weigh f u.taken) views port v (halved v) at refl in let b = total_snoc (λ (u : View M K). weigh f u.taken) now (fresh v) in let c = h.taken_once f in omega (arith, a, b, c);
          shared =
              let a = total_set part views port v (halved v) at in
              let b = total_snoc part now (fresh v) in
              let c = total_double (λ (u : View M K). units h.depth (share_of u)) part views (λ j u at'. units_suc h.depth (share_of u) (h.known j u at').deep) in
              let d = units_suc h.depth (share_of v) mine.deep in
              let e = units_half h.depth (share_of v) in
              let s = h.shared in
              omega (arith, a, b, c, d, e, s);
        }

    -- where v has all of it, the others have no part
    alone : (items : List M) (views : List (View M K)) (port : ℕ) (v : View M K) → (h : Kept mark items views) → get_elem? views port ≡ some v → IsAll (share_of v)
        → (j : ℕ) (u : View M K) → j ≢ port → get_elem? views j ≡ some u → u.part ≡ 0
    alone items views port v h at whole j u apart at' =
        let part : View M K → ℕ = λ y. units h.depth (share_of y) in
        let a = total_two part views j port u v apart at' at in
        let b = units_all h.depth (share_of v) (h.known port v at).deep whole in
        let s = h.shared in
        none_of u.part (h.depth - u.cuts) (let none : part u ≡ 0 = omega (arith, a, b, s) in none)

    pub chooses : (port : ℕ) (v : View M K) (name : Option K) → v ≡ at_first → Forks (Kept mark) port v spent (seen name (share_of v) v.sent v.taken)
    chooses port v name first items views h at =
        let whole : IsAll (share_of v) = subst (λ (y : View M K). IsAll (share_of y)) (sym first) refl in
        let unnamed : v.mark ≡ None = ap (λ (y : View M K). y.mark) first in
        let all : List M = h.gone ++ items in
        let mine = h.known port v at in
        let none : h.chosen ≡ None = sym (mine.named (whole_some (share_of v) whole)) ∙ unnamed in
        let w : View M K = seen name (share_of v) v.sent v.taken in
        let right : Knows name all h.gone h.depth w =
        record {
          named = λ _. refl;
          sent_idle = mine.sent_idle;
          taken_idle = mine.taken_idle;
          deep = mine.deep;
          sent_climbs = mine.sent_climbs;
          taken_climbs = mine.taken_climbs;
          sent_stands = mine.sent_stands;
          taken_stands = mine.taken_stands;
        } in
        let known = each_set (Knows name all h.gone h.depth) views port spent (spent_knows name all h.gone h.depth)
        (λ j u apart at'. renamed h.chosen name all h.gone h.depth u (alone items views port v h at whole j u apart at') (h.known j u at')) in
        record {
          chosen = name;
          gone = h.gone;
          depth = h.depth;
          marked = each_of (λ y. Some (mark y) ≡ h.chosen) (λ y. Some (mark y) ≡ name) (λ y is_mark. absurd (some_none (mark y) (is_mark ∙ none))) all h.marked;
          known = each_snoc (Knows name all h.gone h.depth) (set views port spent) w right known;
          sent_once = λ f. total_moved (λ (u : View M K). weigh f u.sent) views port v spent w at refl refl ∙ h.sent_once f;
          taken_once = λ f. total_moved (λ (u : View M K). weigh f u.taken) views port v spent w at refl refl ∙ h.taken_once f;
          shared = total_moved (λ (u : View M K). units h.depth (share_of u)) views port v spent w at (doubled_none (h.depth - 0)) refl ∙ h.shared;
        }

    pub merges : (port : ℕ) (v : View M K) (other : ℕ) (u : View M K) → 0 < v.part → Merges (Kept mark) port v other u (joined v u) spent
    merges port v other u has items views h at apart at' =
        let all : List M = h.gone ++ items in
        let both : View M K = joined v u in
        let mine = h.known port v at in
        let was : get_elem? views other ≡ some u = ⊎_elim (λ (x : (other ≡ port) × (both ≡ u)). absurd (apart x.0)) (λ (x : (other ≢ port) × (get_elem? views other ≡ some u)). x.1) (at_set views port other both u at') in
        let theirs = h.known other u was in
        let part = together_some (share_of v) (share_of u) has in
        let here : Knows h.chosen all h.gone h.depth both =
        record {
          named = λ _. mine.named has;
          sent_idle = λ none. absurd (omega (arith, part, none));
          taken_idle = λ none. absurd (omega (arith, part, none));
          deep = together_deep h.depth (share_of v) (share_of u) mine.deep theirs.deep;
          sent_climbs = merged_climbs u.sent v.sent mine.sent_climbs;
          taken_climbs = merged_climbs u.taken v.taken mine.taken_climbs;
          sent_stands = merged_each (StandsIn all) u.sent v.sent theirs.sent_stands mine.sent_stands;
          taken_stands = merged_each (StandsIn h.gone) u.taken v.taken theirs.taken_stands mine.taken_stands;
        } in
        let now = each_set (Knows h.chosen all h.gone h.depth) views port both here (λ j y _ at''. h.known j y at'') in
        record {
          chosen = h.chosen;
          gone = h.gone;
          depth = h.depth;
          marked = h.marked;
          known = each_set (Knows h.chosen all h.gone h.depth) (set views port both) other spent (spent_knows h.chosen all h.gone h.depth) (λ j y _ at''. now j y at'');
          sent_once = λ f. total_both (λ (y : View M K). weigh f y.sent) views port other v u both spent at at' (let e = merged_weigh f u.sent v.sent in omega (arith, e)) refl ∙ h.sent_once f;
          taken_once = λ f. total_both (λ (y : View M K). weigh f y.taken) views port other v u both spent at at' (let e = merged_weigh f u.taken v.taken in omega (arith, e)) refl ∙ h.taken_once f;
          shared = total_both (λ (y : View M K). units h.depth (share_of y)) views port other v u both spent at at' (units_together h.depth (share_of v) (share_of u) mine.deep theirs.deep) (doubled_none (h.depth - 0)) ∙ h.shared;
        }

    pub tells : (port : ℕ) (v : View M K) → Learns (Kept mark) port v (told v)
    tells port v items views h at =
        let all : List M = h.gone ++ items in
        let mine = h.known port v at in
        let sent : (ℕ → ℕ) → View M K → ℕ = λ f u. weigh f u.sent in
        let taken : (ℕ → ℕ) → View M K → ℕ = λ f u. weigh f u.taken in
        let sent_up : Rises v.sent = rises v.sent mine.sent_climbs (λ k. let a = total_at (sent (is k)) views port v at in let b = h.sent_once (is k) in let c = below_is k (length all) in omega (arith, a, b, c)) in
        let taken_up : Rises v.taken = rises v.taken mine.taken_climbs (λ k. let a = total_at (taken (is k)) views port v at in let b = h.taken_once (is k) in let c = below_is k (length h.gone) in omega (arith, a, b, c)) in
        record {
          gone = h.gone;
          sent_rises = sent_up;
          taken_rises = taken_up;
          sent_stands = mine.sent_stands;
          taken_stands = mine.taken_stands;
          all_sent = λ whole. is_full all v.sent sent_up mine.sent_stands
              (
              let a = total_alone (sent (λ _. 1)) views port v at (λ j u apart at'. ap (weigh (λ _. 1)) ((h.known j u at').sent_idle (alone items views port v h at whole j u apart at'))) in
              let b = h.sent_once (λ _. 1) in let c = below_ones (length all) in let d = weigh_ones v.sent in omega (arith, a, b, c, d)
              );
          all_taken = λ whole. is_full h.gone v.taken taken_up mine.taken_stands
              (
              let a = total_alone (taken (λ _. 1)) views port v at (λ j u apart at'. ap (weigh (λ _. 1)) ((h.known j u at').taken_idle (alone items views port v h at whole j u apart at'))) in
              let b = h.taken_once (λ _. 1) in let c = below_ones (length h.gone) in let d = weigh_ones v.taken in omega (arith, a, b, c, d)
              );
        }
