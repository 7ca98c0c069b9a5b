-- The finished calls of a world are legal, in the order of their numbers.
use Rattle.std.proofs.Common.{◌≡◌, ◌≢◌, ℕ, pred, ◌≤◌, Bool, true, false, ◌||◌, List, [], None, inl, inr, refl, sym, ap, ◌∙◌, subst, arith, eqb}
use Rattle.std.proofs.lemmas.Bool.{cases_lt, false≢true, eqb-true, or_cases, or_right}
use Rattle.df_order.specs.Lists.{Has, only}
use Rattle.df_order.specs.Model.{Model, Laws, Whole, names_none, clash, own, Before}
use Rattle.df_order.specs.Histories.{Legal, some_entry, executed, entries, Recorded}
use Rattle.df_order.specs.Shards.{Queued}
use Rattle.df_order.proofs.Lists.{has_only, chain_only, chain_map, nil_none, only_only}
use Rattle.df_order.proofs.Commute.{Leaves, kept_only, has_own, fit_tells}
use Rattle.df_order.proofs.LogsAlone.{legal, none_all, has_some, names_none_at, items_alike}
use Rattle.df_world.specs.World.{World, logs, Unstaged}
use Rattle.df_world.specs.TheList.{Finds, the_list}
use Rattle.df_world.specs.Sound.{Sound}
use Rattle.df_world.proofs.SoundFacts.{entry_drawn, waits_or_done}

module _ (M : Model) (laws : Laws M) (start : ℕ → M.State) (unstaged : (s : ℕ) → Unstaged M s (start s)) (w : World M)
    (sound : Sound M start w) (finished : ℕ → Bool) (replies : ℕ → M.Reply) (finds : Finds M w finished replies) where
  -- an entered number that isn't finished is queued
  waits : (s : ℕ) (e : M.Entry) → Has (w.shard s).log e → finished (M.number e) ≡ false →
      Queued (w.shard s).queue (M.number e)
  waits s e h f = elim (waits_or_done M start w sound s e h) [ inl q ↦ q | inr all ↦ absurd (finds.no (M.number e) f all) ]

  -- the entries of the finished calls
  done_logs : ℕ → List M.Entry
  done_logs s = only (λ e. finished (M.number e)) (w.shard s).log

  done_entries : (n : ℕ) → finished n ≡ true → entries M done_logs n ≡ entries M (logs M w) n
  unfolding done_logs
  done_entries n f = λ i s. only_only (λ e. eqb (M.number e) n) (λ e. finished (M.number e)) (w.shard s).log
      (λ e j. ap finished (eqb-true (M.number e) n j) ∙ f) i

  has_done : (s : ℕ) (e : M.Entry) → Has (done_logs s) e → Has (w.shard s).log e × (finished (M.number e) ≡ true)
  unfolding done_logs
  has_done s e h = has_only (λ f. finished (M.number f)) (w.shard s).log e h

  some_done : (n : ℕ) → some_entry M done_logs n M.shards ≡ true → finished n ≡ true
  some_done n h =
      let v = has_some M done_logs n M.shards h in
      let o = has_own M n (done_logs v.0) v.1 v.2 in
      ap finished (sym o.1) ∙ (has_done v.0 v.1 o.0).1

  -- an entry that is left out meets no other number behind it
  left : (s : ℕ) (e f : M.Entry) → Has (w.shard s).log e → Has (w.shard s).log f → Before M w.call s e f →
      finished (M.number e) ≡ false → M.number e ≢ M.number f → clash M w.call s (M.number e) (M.number f) ≡ false
  left s e f he hf b i ne = elim (cases_lt (M.number f) (M.number e)) [
    | inl lt ↦ b.lower lt
    | inr ge ↦
        (let q = waits s e he i in subst (λ m. clash M w.call s m (M.number f) ≡ false) q.2 ((sound.shards s).ahead q.0 f q.1 hf (omega (arith, q.2))))
  ]

  within : (s : ℕ) → M.shards ≤ s → done_logs s ≡ []
  within s ge = nil_none (done_logs s) (λ e h. sound.named s e (has_done s e h).0 (laws.within (w.call (M.number e)) s ge))

  -- the executed numbers of these logs are the finished ones
  same_numbers : (n : ℕ) → executed M w.call done_logs n ≡ finished n
  same_numbers n = go (finished n) refl
    where
      yes : finished n ≡ true → (b : Bool) → some_entry M done_logs n M.shards ≡ b →
          executed M w.call done_logs n ≡ true
      yes f true i = ap (λ b. names_none M (w.call n) M.shards || b) i ∙ or_right (names_none M (w.call n) M.shards) true refl
      yes f false i =
          let a = laws.whole_some (w.call n) (entries M done_logs n)
          (subst (Whole M (w.call n)) (sym (done_entries n f)) (replies n, finds.yes n f)) (none_all M done_logs within n i) in
          ap (λ b. b || some_entry M done_logs n M.shards) a

      nil : names_none M (w.call n) M.shards ≡ true → (s : ℕ) → own M n (w.shard s).log ≡ []
      nil a s = nil_none (own M n (w.shard s).log) (λ e h.
          let o = has_own M n (w.shard s).log e h in
          let no : M.footprint (w.call n) s ≡ None = elim (cases_lt s M.shards) [
            | inl lt ↦ names_none_at M (w.call n) M.shards a s lt
            | inr ge ↦ laws.within (w.call n) s ge
          ] in
          sound.named s e o.0 (ap (λ m. M.footprint (w.call m) s) o.1 ∙ no))

      no : finished n ≡ false → (b : Bool) → executed M w.call done_logs n ≡ b → b ≡ false
      no f false i = refl
      no f true i = absurd (elim (or_cases (names_none M (w.call n) M.shards) (some_entry M done_logs n M.shards) i)
          [ inl a ↦ finds.no n f (laws.none_whole (w.call n) (entries M (logs M w) n) a (nil a)) | inr b ↦ false≢true (sym f ∙ some_done n b) ])

      go : (b : Bool) → finished n ≡ b → executed M w.call done_logs n ≡ finished n
      go true f = yes f (some_entry M done_logs n M.shards) refl ∙ sym f
      go false f = no f (executed M w.call done_logs n) refl ∙ sym f

  -- so these logs are recorded: what is left of each fits without the rest
  done_recorded : Recorded M w.call (pred w.counter) start done_logs replies
  unfolding done_logs
  done_recorded = record {
    in_order = λ s. chain_only (Before M w.call s) (λ e. finished (M.number e)) (w.shard s).log (sound.shards s).in_order;
    telling = λ s. fit_tells M w.call s (start s) (done_logs s) (kept_only M laws w.call s finished (start s) (w.shard s).log
        (chain_map (Before M w.call s) (Leaves M laws w.call s finished) (w.shard s).log
        (λ e f he hf b. record { by = λ i ne. left s e f he hf b i ne }) (sound.shards s).in_order) (sound.shards s).fitting);
    clean = λ s. (unstaged s).good;
    drawn = λ s e h. let v = entry_drawn M start w sound s e (has_done s e h).0 in (v.0, omega (arith, v.1));
    within = within;
    complete = λ n h.
        let f = sym (same_numbers n) ∙ h in
        subst (λ es. M.Gives (w.call n) es (replies n)) (sym (done_entries n f)) (finds.yes n f);
  }

  pub the_list_legal : Legal M (M.joined start) (the_list M w finished replies)
  the_list_legal = subst (Legal M (M.joined start))
      (items_alike M w.call done_logs (logs M w) replies (executed M w.call done_logs) finished same_numbers done_entries 1 (pred w.counter))
      (legal M laws w.call (pred w.counter) start done_logs replies done_recorded)
