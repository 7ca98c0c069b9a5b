-- The promise over sessions alone.
use Rattle.std.proofs.Common.{◌≡◌, inl, inr, ℕ, ◌+◌, ◌≤◌, Bool, true, false, cond, eqb, List, [], ◌∷◌, refl, sym, arith}
use Rattle.std.specs.List.{AllByRecursion}
use Rattle.std.proofs.lemmas.Bool.{eqb-true}
use Rattle.std.proofs.lemmas.List.Sums.{sum_by-cons}
use Rattle.df_model.specs.History.{Item}
use Rattle.df_model.specs.Spoken.{Session, Spoke}
use Rattle.df_desk.specs.OneTable.{of_session}
use Rattle.df_sessions.specs.Sessions.{Parted}
use Rattle.df_sessions.specs.AllSessions.{at_id, gone_at, HasItems, IsOneOf, sessions_of, PromisesAList}
use Rattle.df_sessions.proofs.ListLaws.{all_map}

all_spoke : (items : List Item) (gone : List Parted) (a : AllByRecursion (HasItems items) gone) → AllByRecursion (λ (w : Session). Spoke w (of_session w.id items)) (sessions_of items gone a)
all_spoke items [] a = tt
all_spoke items (p ∷ gone) a = (a.0.spoke, all_spoke items gone a.1)

abbrev bit : Bool → ℕ
bit b = cond b 1 0

-- a place that counts is one's
placed_case : (items : List Item) (p : Parted) (gone : List Parted) (a : AllByRecursion (HasItems items) (p ∷ gone)) (id : ℕ) → (b : Bool) → eqb id p.id ≡ b → 1 ≤ bit b + gone_at id gone →
    (1 ≤ gone_at id gone → (w : Session) × IsOneOf (sessions_of items gone a.1) w × (w.id ≡ id)) → (w : Session) × IsOneOf (sessions_of items (p ∷ gone) a) w × (w.id ≡ id)
placed_case items p gone a id true e le more = (record { id = p.id; why = p.why; taken = a.0.bytes; written = a.0.wrote }, inl refl, sym (eqb-true id p.id e))
placed_case items p gone a id false e le more = let m = more (omega (arith, le)) in (m.0, inr m.1, m.2)

placed_at : (items : List Item) (gone : List Parted) (a : AllByRecursion (HasItems items) gone) (id : ℕ) → 1 ≤ gone_at id gone → (w : Session) × IsOneOf (sessions_of items gone a) w × (w.id ≡ id)
placed_at items [] a id le = absurd (omega (arith, le))
placed_at items (p ∷ gone) a id le =
    placed_case items p gone a id (eqb id p.id) refl (omega (arith, le, sum_by-cons (λ (x : Parted). at_id id x.id) p gone)) (placed_at items gone a.1 id)

pub promises_a_list : PromisesAList
promises_a_list K0 count gone p = record {
  legal = p.legal;
  ordered = p.ordered;
  spoke = all_spoke p.items gone p.spoke;
  placed = all_map (λ (i : Item). gone_at i.session gone ≡ 1) (λ (i : Item). (w : Session) × IsOneOf (sessions_of p.items gone p.spoke) w × (w.id ≡ i.session)) p.items
      (λ i one. placed_at p.items gone p.spoke i.session (omega (arith, one))) p.placed;
}
