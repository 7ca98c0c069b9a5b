-- What each method makes of a desk.
use Rattle.std.proofs.Common.{◌≡◌, inl, inr, arith, ℕ, true, List, [], ◌∷◌, ◌++◌, refl, sym, ap, subst, ◌∙◌, append-nil}
use Rattle.std.specs.Prelude.{Some}
use Rattle.std.specs.Global.{Box}
use Rattle.df_model.specs.Keyspace.{Keyspace}
use Rattle.df_caller.specs.Told.{Told}
use Rattle.df_caller.specs.Calling.{Answers}
use Rattle.df_caller.specs.declared.slip.Slip.{Slip}
use Rattle.df_desk.specs.States.{DeskState, Served}
use Rattle.df_desk.specs.Desks.{under_at, due_at, ran_at}
use Rattle.df_desk.specs.Runs.{HasGiven, HasServed}
use Rattle.df_desk.specs.declared.place.Place.{Place}
use Rattle.df_desk.specs.declared.place.Place.TheVariants as places

-- a desk by its parts
abbrev pub at_place : List Told → ℕ → Place → DeskState
at_place answered stalls place = record { calling = record { told = answered; under = under_at place; stalls = stalls; due = due_at place }; ran = answered ++ ran_at place }

pub nothing_ran : (answered : List Told) (stalls : ℕ) (place : Place) (K after : Keyspace) → due_at place ≡ true → after ≡ K → Served (at_place answered stalls place) (at_place answered stalls place) K after
nothing_ran answered stalls place K after due same = record { calling = ap (λ b. record { told = answered; under = under_at place; stalls = stalls; due = b }) due; ran = inl (refl, same) }

same_place : (answered : List Told) (stalls : ℕ) (result place : Place) (K after : Keyspace) → due_at place ≡ true → result ≡ place → after ≡ K → Served (at_place answered stalls place) (at_place answered stalls result) K after
same_place answered stalls result place K after due is same = subst (λ p. Served (at_place answered stalls place) (at_place answered stalls p) K after) (sym is) (nothing_ran answered stalls place K after due same)

-- it ran: the connection still sees it under way, and what ran is one more
one_ran : (answered : List Told) (stalls : ℕ) (slip : Box Slip) (ran : Told) (K after : Keyspace) → HasGiven ran slip.value.call K after →
    Served (at_place answered stalls (places.Waits slip)) record { calling = record { told = answered; under = Some ran.call; stalls = stalls; due = true }; ran = answered ++ ran ∷ [] } K after
one_ran answered stalls slip ran K after h = record {
  calling = ap (λ x. record { told = answered; under = Some x; stalls = stalls; due = true }) h.calls;
  ran = inr (ran, h.marks, ap (λ l. l ++ ran ∷ []) (sym (append-nil answered)), append-nil answered, h.allowed);
}

pub served_state : (answered : List Told) (stalls : ℕ) (result place : Place) (K after : Keyspace) → HasServed result place K after → Served (at_place answered stalls place) (at_place answered stalls result) K after
served_state answered stalls result places.Empty K after h = same_place answered stalls result places.Empty K after refl h.0 h.1
served_state answered stalls places.Empty (places.Waits slip) K after h = absurd h
served_state answered stalls (places.Waits waits) (places.Waits slip) K after h = absurd h
served_state answered stalls (places.Ran back ran) (places.Waits slip) K after h = one_ran answered stalls slip ran K after h.0
served_state answered stalls (places.Unsaid back ran) (places.Waits slip) K after h = one_ran answered stalls slip ran K after h
served_state answered stalls (places.NoMemory back none) (places.Waits slip) K after h = record {
  calling = ap (λ x. record { told = answered; under = Some x; stalls = stalls; due = true }) h.0;
  ran = inl (refl, h.1);
}
served_state answered stalls result (places.Ran slip ran) K after h = same_place answered stalls result (places.Ran slip ran) K after refl h.0 h.1
served_state answered stalls result (places.Unsaid slip ran) K after h = same_place answered stalls result (places.Unsaid slip ran) K after refl h.0 h.1
served_state answered stalls result (places.NoMemory slip call) K after h = same_place answered stalls result (places.NoMemory slip call) K after refl h.0 h.1

-- the reply is given: what was told grows by what ran
pub gives_told : (answered told : List Told) (stalls : ℕ) (place after : Place) (ran : Told) → under_at place ≡ Some ran.call → told ≡ answered ++ ran ∷ [] → after ≡ places.Empty →
    (a : Answers (at_place answered stalls place).calling record { told = told; under = under_at after; stalls = stalls; due = due_at after }) × (a.reply ≡ ran.reply)
gives_told answered told stalls place after ran under grown empty =
    (record { call = ran.call; was = under; reply = ran.reply; told = grown; under = ap under_at empty; stalls = omega arith }, refl)

pub ran_stays : (answered told : List Told) (place after : Place) (ran : Told) → ran_at place ≡ ran ∷ [] → told ≡ answered ++ ran ∷ [] → after ≡ places.Empty → told ++ ran_at after ≡ answered ++ ran_at place
ran_stays answered told place after ran at grown empty =
    ap (λ p. told ++ ran_at p) empty ∙ append-nil told ∙ grown ∙ ap (λ l. answered ++ l) (sym at)
