-- Members that come and go one after another.
use Rattle.std.proofs.Common.{◌≡◌, ◌≢◌, ℕ, zero, suc, ◌+◌, ◌-◌, ◌<◌, ◌≤◌, Bool, true, false, ◌&&◌, ◌||◌, cond, List, [], ◌∷◌, length, get_or, refl, sym, ap, subst, ◌∙◌, arith}
use Rattle.std.proofs.lemmas.Bool.{ne_eqb}
use Rattle.std.specs.Prelude.{Option, Some, None, is_some, not, if◌then◌else◌, ◌==◌}
use mathlib.Core.Bool.{beq}
use mir.Val.{bool_byte as from_bool}
use Rattle.std.specs.Ordering.{eq_by_cmp}
use Rattle.std.specs.Cmp.Lexicographic.{nat_list_cmp_total}
use Rattle.std.specs.FinMap as finmap
use Rattle.df_model.specs.Values.{Bytes, Members, Value}
use Rattle.df_model.specs.Members.{empty, contains, insert, remove, len}
use Rattle.df_model.specs.Outcomes.{settled, count}
use Rattle.df_model.specs.Outcomes as outcomes
use Rattle.df_model.specs.Meaning.Sets.{with_members, without_members, stored, sadd, srem}
use Rattle.df_model.proofs.LocalityLaws.{equal}
use Rattle.df_model.proofs.MembersLaws.{same_members}
use Rattle.df_colls.specs.Roomy.{order}
use Rattle.df_colls.specs.Counting.{Grown, Shrunk}
use Rattle.df_colls.proofs.OrderLaws.{same_key}
use Rattle.df_colls.proofs.CountLaws.{grown_none, grown_step, shrunk_none, shrunk_step}
use Rattle.df_sets.specs.Counted.{Counted}

ties : (q m : Bytes) → eq_by_cmp order q m ≡ true → q ≡ m
ties q m e = same_key q m (equal (order q m) e)

-- ---- words that change nothing

pub had : (s : Members) (m : Bytes) → contains s m ≡ true → insert s m ≡ s
had s m h = same_members _ _ (λ q. ap is_some (finmap.get-insert nat_list_cmp_total s m tt q) ∙ told q (eq_by_cmp order q m) refl)
  where
    told : (q : Bytes) (b : Bool) → eq_by_cmp order q m ≡ b → is_some (cond b (Some tt) (finmap.get s q)) ≡ contains s q
    told q true e = sym (ap (contains s) (ties q m e) ∙ h)
    told q false e = refl

pub had_not : (s : Members) (m : Bytes) → contains s m ≡ false → remove s m ≡ s
had_not s m h = same_members _ _ (λ q. ap is_some (finmap.get-remove nat_list_cmp_total s m q) ∙ told q (eq_by_cmp order q m) refl)
  where
    told : (q : Bytes) (b : Bool) → eq_by_cmp order q m ≡ b → is_some (cond b None (finmap.get s q)) ≡ contains s q
    told q true e = sym (ap (contains s) (ties q m e) ∙ h)
    told q false e = refl

insert_len : (s : Members) (m : Bytes) → len (insert s m) ≡ cond (contains s m) (len s) (len s + 1)
insert_len s m = finmap.len-insert nat_list_cmp_total s m tt

remove_len : (s : Members) (m : Bytes) → len (remove s m) ≡ cond (contains s m) (len s - 1) (len s)
remove_len s m = finmap.len-remove nat_list_cmp_total s m

grows : (s : Members) (m : Bytes) → len s ≤ len (insert s m)
grows s m = told (contains s m) (insert_len s m)
  where
    told : (b : Bool) → len (insert s m) ≡ cond b (len s) (len s + 1) → len s ≤ len (insert s m)
    told true e = omega arith
    told false e = omega arith

falls : (s : Members) (m : Bytes) → len (remove s m) ≤ len s
falls s m = told (contains s m) (remove_len s m)
  where
    told : (b : Bool) → len (remove s m) ≡ cond b (len s - 1) (len s) → len (remove s m) ≤ len s
    told true e = omega arith
    told false e = omega arith

all_grows : (ms : List Bytes) (s : Members) → len s ≤ len (with_members ms s)
all_grows [] s = omega arith
all_grows (m ∷ ms) s = omega (arith, grows s m, all_grows ms (insert s m))

pub all_falls : (ms : List Bytes) (s : Members) → len (without_members ms s) ≤ len s
all_falls [] s = omega arith
all_falls (m ∷ ms) s = omega (arith, falls s m, all_falls ms (remove s m))

pub none_new : (ms : List Bytes) (s : Members) → len (with_members ms s) ≡ len s → with_members ms s ≡ s
none_new [] s e = refl
none_new (m ∷ ms) s e =
    let same : insert s m ≡ s = told (contains s m) refl (insert_len s m) in
    ap (with_members ms) same ∙ none_new ms s (ap (λ t. len (with_members ms t)) (sym same) ∙ e)
  where
    told : (b : Bool) → contains s m ≡ b → len (insert s m) ≡ cond b (len s) (len s + 1) → insert s m ≡ s
    told true h l = had s m h
    told false h l = absurd (omega (arith, all_grows ms (insert s m)))

-- a set that has a member is not empty
some_member : (s : Members) (m : Bytes) → contains s m ≡ true → 0 < len s
some_member s m h = told (len s) refl
  where
    told : (n : ℕ) → len s ≡ n → 0 < len s
    told zero e = cc (h, ap (λ t. contains t m) (finmap.empty_of_len s e), ap is_some (finmap.get-empty {X = Unit {0}} order m))
    told (suc n) e = omega arith

pub none_gone : (ms : List Bytes) (s : Members) → len (without_members ms s) ≡ len s → without_members ms s ≡ s
none_gone [] s e = refl
none_gone (m ∷ ms) s e =
    let same : remove s m ≡ s = told (contains s m) refl (remove_len s m) in
    ap (without_members ms) same ∙ none_gone ms s (ap (λ t. len (without_members ms t)) (sym same) ∙ e)
  where
    told : (b : Bool) → contains s m ≡ b → len (remove s m) ≡ cond b (len s - 1) (len s) → remove s m ≡ s
    told true h l = let some = some_member s m h in absurd (omega (arith, all_falls ms (remove s m)))
    told false h l = had_not s m h

-- ---- what becomes of the key

pub stored_some : (s : Members) (held : Option Value) → 0 < len s → settled (stored s) held ≡ Some (Value.Set s)
stored_some s held h =
    ap (λ b. settled (if b then outcomes.Change.Delete else outcomes.Change.Put (Value.Set s)) held) (ne_eqb (len s) 0 (λ e. omega arith))

pub stored_none : (s : Members) → len s ≡ 0 → stored s ≡ outcomes.Change.Delete
stored_none s e = ap (λ n. if n == 0 then outcomes.Change.Delete else outcomes.Change.Put (Value.Set s)) e

pub another : (s t : Members) → len s ≢ len t → Some (Value.Set s) ≢ Some (Value.Set t)
another s t differ e = differ (ap len same)
  where
    same : s ≡ t
    same = cc

-- ---- counting

-- once some of the words came or went
abbrev pub SoFar : Bool → List Bytes → Members → List Bytes → Members → Members → ℕ → Type 0
SoFar false words old rest now met n = (with_members rest now ≡ with_members words old) × Grown old now met n
SoFar true words old rest now met n = (without_members rest now ≡ without_members words old) × Shrunk old now met n

pub starts : (inside : Bool) (words : List Bytes) (old met : Members) → met ≡ empty → SoFar inside words old words old met 0
starts false words old met e = (refl, grown_none old met e)
starts true words old met e = (refl, shrunk_none old met e)

pub ended : (inside : Bool) (words : List Bytes) (old now met : Members) (n : ℕ) → SoFar inside words old [] now met n → Counted inside words old n
ended false words old now met n s = ap len (sym s.0) ∙ s.1.size
ended true words old now met n s = ap (λ t. len t + n) (sym s.0) ∙ s.1.size

-- a word that doesn't count
pub passed : (inside has : Bool) (words rest : List Bytes) (word : Bytes) (old now met : Members) (n : ℕ) → has ≡ contains old word → has ≢ inside → SoFar inside words old (word ∷ rest) now met n → SoFar inside words old rest now met n
passed false true words rest word old now met n h differ s =
    let same : insert now word ≡ now = had now word (s.1.keys word ∙ ap (λ b. b || contains met word) (sym h)) in
    (ap (with_members rest) (sym same) ∙ s.0, s.1)
passed true false words rest word old now met n h differ s =
    let same : remove now word ≡ now = had_not now word (s.1.keys word ∙ ap (λ b. b && not (contains met word)) (sym h)) in
    (ap (without_members rest) (sym same) ∙ s.0, s.1)
passed false false words rest word old now met n h differ s = absurd (differ refl)
passed true true words rest word old now met n h differ s = absurd (differ refl)

-- the members once a word came or went
abbrev pub after : Bool → Members → Bytes → Members
after false now word = insert now word
after true now word = remove now word

-- a word that counts, where it comes for the first time
pub counted : (inside has new : Bool) (words rest : List Bytes) (word : Bytes) (old now met more : Members) (n m : ℕ) → has ≡ contains old word → has ≡ inside → more ≡ insert met word → new ≡ not (contains met word) → m ≡ n + cond new 1 0 → SoFar inside words old (word ∷ rest) now met n → SoFar inside words old rest (after inside now word) more m
counted false has new words rest word old now met more n m h is put added total s =
    (s.0, grown_step old now met more n m word tt new has s.1 put added h (total ∙ told has new is))
  where
    told : (has new : Bool) → has ≡ false → n + cond new 1 0 ≡ cond (new && not has) (n + 1) n
    told true new e = cc
    told false true e = omega arith
    told false false e = omega arith
counted true has new words rest word old now met more n m h is put added total s =
    (s.0, shrunk_step old now met more n m word new has s.1 put added h (total ∙ told has new is))
  where
    told : (has new : Bool) → has ≡ true → n + cond new 1 0 ≡ cond (new && has) (n + 1) n
    told false new e = cc
    told true true e = omega arith
    told true false e = omega arith

-- ---- what the loop over the words sees

pub as_number : (b : Bool) → from_bool b ≡ cond b 1 0
as_number true = refl
as_number false = refl

pub at_most_one : (b : Bool) → from_bool b ≤ 1
at_most_one true = omega arith
at_most_one false = omega arith

pub differ : (a b : Bool) → not (beq a b) ≡ true → a ≢ b
differ true true e same = cc
differ true false e same = cc
differ false true e same = cc
differ false false e same = cc

pub agree : (a b : Bool) → not (beq a b) ≡ false → a ≡ b
agree true true e = refl
agree true false e = cc
agree false true e = cc
agree false false e = refl

-- a word alone
pub single : (inside has : Bool) (words : List Bytes) (set : Members) (word : Bytes) (n : ℕ) → length words ≡ 1 → word ≡ get_or words 0 word → has ≡ contains set word → n ≡ from_bool (beq has inside) → Counted inside words set n
single inside has [] set word n one is h e = absurd (omega arith)
single inside has (w ∷ v ∷ more) set word n one is h e = absurd (omega arith)
single false true (w ∷ []) set word n one is h e = omega (arith, insert_len set w ∙ ap (λ b. cond b (len set) (len set + 1)) (ap (contains set) (sym is) ∙ sym h), e)
single false false (w ∷ []) set word n one is h e = omega (arith, insert_len set w ∙ ap (λ b. cond b (len set) (len set + 1)) (ap (contains set) (sym is) ∙ sym h), e)
single true true (w ∷ []) set word n one is h e =
    let there : contains set w ≡ true = ap (contains set) (sym is) ∙ sym h in
    omega (arith, remove_len set w ∙ ap (λ b. cond b (len set - 1) (len set)) there, some_member set w there, e)
single true false (w ∷ []) set word n one is h e = omega (arith, remove_len set w ∙ ap (λ b. cond b (len set - 1) (len set)) (ap (contains set) (sym is) ∙ sym h), e)

-- ---- the rows where nothing changes, or nothing is held

pub adds_none : (words lent : List Bytes) (set : Members) (n : ℕ) → lent ≡ words → Counted false lent set n → n ≡ 0 → (count 0, stored set) ≡ sadd words set
adds_none words lent set n same counted none =
    let long : len (with_members words set) ≡ len set = subst (λ ws. len (with_members ws set) ≡ len set) same (omega arith) in
    let zero_new : len (with_members words set) - len set ≡ 0 = omega arith in
    ap (λ k. (count k, stored set)) (sym zero_new) ∙ ap (λ t. (count (len (with_members words set) - len set), stored t)) (sym (none_new words set long))

pub removes_none : (words lent : List Bytes) (set : Members) (n : ℕ) → lent ≡ words → Counted true lent set n → n ≡ 0 → (count 0, stored set) ≡ srem words set
removes_none words lent set n same counted none =
    let long : len (without_members words set) ≡ len set = subst (λ ws. len (without_members ws set) ≡ len set) same (omega arith) in
    let zero_gone : len set - len (without_members words set) ≡ 0 = omega arith in
    ap (λ k. (count k, stored set)) (sym zero_gone) ∙ ap (λ t. (count (len set - len (without_members words set)), stored t)) (sym (none_gone words set long))

none_held : len empty ≡ 0
none_held = finmap.len-empty order (Unit {0})

pub adds_to_none : (words : List Bytes) (made : Members) → made ≡ with_members words empty → 0 < len made → (count (len made) ≡ (sadd words empty).0) × (Some (Value.Set made) ≡ settled (sadd words empty).1 None)
adds_to_none words made e some =
    let long : len made ≡ len (with_members words empty) - len empty = omega (arith, ap len e, none_held) in
    (ap count long, ap (λ s. Some (Value.Set s)) e ∙ sym (stored_some (with_members words empty) None (subst (λ s. 0 < len s) e some)))

pub removes_from_none : (words : List Bytes) → (count 0 ≡ (srem words empty).0) × (None ≡ settled (srem words empty).1 None)
removes_from_none words =
    let gone : 0 ≡ len empty - len (without_members words empty) = omega (arith, none_held) in
    let left : len (without_members words empty) ≡ 0 = omega (arith, none_held, all_falls words empty) in
    (ap count gone, ap (λ change. settled change None) (sym (stored_none (without_members words empty) left)))
