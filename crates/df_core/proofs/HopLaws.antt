-- The steps of one command among those of its call, on each shard.
use Rattle.std.proofs.Common.{◌≡◌, ◌≢◌, ℕ, zero, suc, ◌+◌, ◌*◌, ◌/◌, ◌<◌, ◌≤◌, ◌++◌, Bool, true, false, cond, List, [], ◌∷◌, inl, inr, refl, sym, ap, ◌∙◌, subst, arith}
use Rattle.std.specs.Prelude.{◌==◌}
use Rattle.std.proofs.lemmas.Bool.{and_from, or_from, or_left, or_right, eq-eqb, ne_eqb, cases_lt}
use Rattle.std.proofs.lemmas.Bool.Decides.{eqb_tells}
use Rattle.df_model.specs.Keyspace.{Keyspace}
use Rattle.df_model.specs.declared.command.Command.{Command}
use Rattle.df_model.specs.declared.reply.Reply.{Reply}
use Rattle.df_order.proofs.Lists.{only_append}
use Rattle.df_core.specs.Due.{every, some, of_command}
use Rattle.df_core.specs.Steps.{Step}
use Rattle.df_core.specs.Done.{Shows, Stops, Undoes, OnEach, Done, DoneAll}

-- ---- what holds on each shard

-- of the shards that there are: all, none or one pass a test
pub all_pass : (p : ℕ → Bool) (n : ℕ) → ((t : ℕ) → t < n → p t ≡ true) → every p n ≡ true
all_pass p zero h = refl
all_pass p (suc t) h = and_from (p t) (every p t) (h t (omega arith)) (all_pass p t (λ u lt. h u (omega (arith, lt))))

pub none_passes : (p : ℕ → Bool) (n : ℕ) → ((t : ℕ) → p t ≡ false) → some p n ≡ false
none_passes p zero h = refl
none_passes p (suc t) h = or_from _ _ (h t) (none_passes p t h)

pub one_passes : (p : ℕ → Bool) (n s : ℕ) → s < n → p s ≡ true → some p n ≡ true
one_passes p zero s lt h = absurd (omega arith)
one_passes p (suc t) s lt h = elim (eqb_tells s t) [
  | inl e ↦ or_left _ _ (ap p (sym e.1) ∙ h)
  | inr e ↦ or_right _ _ (one_passes p t s (omega (arith, e.1)) h)
]

-- what holds of no steps, and of these on each shard or on the one that has any, holds of the steps of every shard
module _ (P : List Step → Type 0) where
  pub each_shard : (shards : ℕ) (steps these : ℕ → List Step) → OnEach shards steps these → P [] →
      ((s : ℕ) → P (these s)) → (s : ℕ) → P (steps s)
  each_shard shards steps these each none some s = elim (cases_lt s shards) [
    | inl lt ↦ subst P (sym (each.within s lt)) (some s)
    | inr le ↦ subst P (sym (each.beyond s le)) none
  ]

  pub one_shard : (steps : ℕ → List Step) (s : ℕ) (these : List Step) → steps s ≡ these →
      ((t : ℕ) → t ≢ s → steps t ≡ []) → P [] → P these → (t : ℕ) → P (steps t)
  one_shard steps s these here there none some t = elim (eqb_tells t s) [
    | inl e ↦ subst P (sym (ap steps e.1 ∙ here)) some
    | inr e ↦ subst P (sym (there t e.1)) none
  ]

-- ---- the hops of command i

-- all steps are of command i
abbrev pub Of : ℕ → List Step → Type 0
Of i [] = Unit {0}
Of i (x ∷ steps) = (x.hop / 4 ≡ i) × Of i steps

-- all are of command i, or of one behind it
abbrev pub From : ℕ → List Step → Type 0
From i [] = Unit {0}
From i (x ∷ steps) = (i ≤ x.hop / 4) × From i steps

-- what is of command i stays among its steps, and is not among those of another
pub of_itself : (i : ℕ) (steps : List Step) → Of i steps → of_command i steps ≡ steps
of_itself i [] o = refl
of_itself i (x ∷ steps) o =
    ap (λ b. cond b (x ∷ of_command i steps) (of_command i steps)) (eq-eqb (x.hop / 4) i o.0) ∙ ap (λ l. x ∷ l) (of_itself i steps o.1)

pub of_other : (i j : ℕ) (steps : List Step) → i ≢ j → Of i steps → of_command j steps ≡ []
of_other i j [] ne o = refl
of_other i j (x ∷ steps) ne o =
    ap (λ b. cond b (x ∷ of_command j steps) (of_command j steps)) (ne_eqb (x.hop / 4) j (λ e. ne (sym o.0 ∙ e)))
    ∙ of_other i j steps ne o.1

pub of_before : (i j : ℕ) (steps : List Step) → j < i → From i steps → of_command j steps ≡ []
of_before i j [] lt from = refl
of_before i j (x ∷ steps) lt from =
    ap (λ b. cond b (x ∷ of_command j steps) (of_command j steps)) (ne_eqb (x.hop / 4) j (λ e. omega (arith, lt, e, from.0)))
    ∙ of_before i j steps lt from.1

pub of_append : (i : ℕ) (xs ys : List Step) → of_command i (xs ++ ys) ≡ of_command i xs ++ of_command i ys
of_append i xs ys = only_append (λ x. x.hop / 4 == i) xs ys

-- ---- the steps of a command that is done are its own

hop_0 : (i : ℕ) → 4 * i / 4 ≡ i
hop_0 i = omega arith

hop_1 : (i : ℕ) → (4 * i + 1) / 4 ≡ i
hop_1 i = omega arith

hop_2 : (i : ℕ) → (4 * i + 2) / 4 ≡ i
hop_2 i = omega arith

hop_3 : (i : ℕ) → (4 * i + 3) / 4 ≡ i
hop_3 i = omega arith

module _ (shards i : ℕ) (command : Command) where
  shows_of : (s : ℕ) (K : Keyspace) (steps : List Step) → Shows shards i s command K steps → Of i steps
  shows_of s K _ (Shows.unnamed e) = tt
  shows_of s K _ (Shows.looked e f) = (hop_0 i, tt)
  shows_of s K _ (Shows.applied e) = (hop_0 i, (hop_1 i, (hop_2 i, tt)))

  stops_of : (s : ℕ) (steps : List Step) → Stops shards i s command steps → Of i steps
  stops_of s _ (Stops.unnamed e) = tt
  stops_of s _ (Stops.read e told) = (hop_0 i, tt)

  undoes_of : (s : ℕ) (K : Keyspace) (steps : List Step) → Undoes shards i s command K steps → Of i steps
  undoes_of s K _ (Undoes.unnamed e) = tt
  undoes_of s K _ (Undoes.looked e f) = (hop_0 i, tt)
  undoes_of s K _ (Undoes.undone e told) = (hop_0 i, (hop_1 i, (hop_3 i, tt)))

  -- all steps of a command that is done are its own
  pub done_of : (own : ℕ → List Step) (kept : Bool) (reply : Reply) → Done shards i command own kept reply → (s : ℕ) →
      Of i (own s)
  done_of own _ _ (Done.nowhere e n) s = subst (Of i) (sym (n s)) tt
  done_of own _ _ (Done.nowhere_wanted e n) s = subst (Of i) (sym (n s)) tt
  done_of own _ _ (Done.ran t reply e x n) s = one_shard (Of i) own t _ x n tt (hop_0 i, tt) s
  done_of own _ _ (Done.run_wanted t e x n) s = one_shard (Of i) own t _ x n tt (hop_0 i, tt) s
  done_of own _ _ (Done.changed K e shows some) s = shows_of s K (own s) (shows s)
  done_of own _ _ (Done.looked K e shows none) s = shows_of s K (own s) (shows s)
  done_of own _ _ (Done.stopped e stops) s = stops_of s (own s) (stops s)
  done_of own _ _ (Done.undone K e undoes some) s = undoes_of s K (own s) (undoes s)
  done_of own _ _ (Done.names pattern names e on) s = each_shard (Of i) shards own _ on tt (λ t. (hop_0 i, tt)) s
  done_of own _ _ (Done.counts numbers e on) s = each_shard (Of i) shards own _ on tt (λ t. (hop_0 i, tt)) s
  done_of own _ _ (Done.names_wanted pattern told e on) s = each_shard (Of i) shards own _ on tt (λ t. (hop_0 i, tt)) s
  done_of own _ _ (Done.counts_wanted told e on w) s = each_shard (Of i) shards own _ on tt (λ t. (hop_0 i, tt)) s
  done_of own _ _ (Done.cuts pairs reply e on w) s = each_shard (Of i) shards own _ on tt (λ t. (hop_0 i, tt)) s
  done_of own _ _ (Done.cleared e on) s = each_shard (Of i) shards own _ on tt (λ t. (hop_1 i, (hop_2 i, tt))) s
  done_of own _ _ (Done.kept_all told e on w) s = each_shard (Of i) shards own _ on tt (λ t. (hop_1 i, (hop_3 i, tt))) s

from_append : (i : ℕ) (own rest : List Step) → Of i own → From (suc i) rest → From i (own ++ rest)
from_append i [] [] of from = tt
from_append i [] (x ∷ rest) of from = (omega (arith, from.0), from_append i [] rest tt from.1)
from_append i (x ∷ own) rest of from = (omega (arith, of.0), from_append i own rest of.1 from)

-- and those of a list of commands are of one of them
pub all_from : (shards i : ℕ) (commands : List Command) (steps : ℕ → List Step) (marks : List Bool) (replies : List Reply) →
    DoneAll shards i commands steps marks replies → (s : ℕ) → From i (steps s)
all_from shards i [] steps [] [] d s = subst (From i) (sym (d s)) tt
all_from shards i [] steps [] (reply ∷ replies) d s = absurd d
all_from shards i [] steps (kept ∷ marks) replies d s = absurd d
all_from shards i (command ∷ commands) steps [] replies d s = absurd d
all_from shards i (command ∷ commands) steps (kept ∷ marks) [] d s = absurd d
all_from shards i (command ∷ commands) steps (kept ∷ marks) (reply ∷ replies) d s =
    subst (From i) (sym (d.2 s)) (from_append i (d.0 s) (d.1 s) (done_of shards i command d.0 kept reply d.3 s)
    (all_from shards (suc i) commands d.1 marks replies d.4 s))
