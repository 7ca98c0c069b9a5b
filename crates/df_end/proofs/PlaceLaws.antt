-- The list of one session, numbered by place.
use Rattle.std.proofs.Common.{◌≡◌, ℕ, ◌+◌, ◌≤◌, List, [], ◌∷◌, inl, inr, refl, sym, ap, ◌∙◌, subst, arith, eq-eqb}
use Rattle.std.specs.List.{AllByRecursion}
use Rattle.df_model.specs.Keyspace.{Keyspace}
use Rattle.df_model.specs.Words.{Words}
use Rattle.df_model.specs.Session.{State}
use Rattle.df_model.specs.History.{Item, Leads, RisesFrom, HasSeen, SeesItsOwn, each_call}
use Rattle.df_model.specs.Output.{Walk, done, stopped, parted, left, replied, called, not_run, not_taken, turned_away}
use Rattle.df_model.specs.declared.session.Why.{Why}
use Rattle.df_model.specs.declared.reply.Reply.{Reply}
use Rattle.df_order.specs.Lists.{Has, cons_if}
use Rattle.df_model.specs.Spoken.{Session, Spoke}
use Rattle.df_end.specs.Promise.{of_session, IsPlace, by_place, IsNumbered}
use Rattle.df_end.specs.Laws.{OneSessionIsNumbered}

numbered : (before : ℕ) (items : List Item) → IsNumbered before (by_place before items)
numbered before [] = tt
numbered before (i ∷ items) = (refl, refl, refl, numbered (before + 1) items)

leads : (before : ℕ) (K last : Keyspace) (items : List Item) → Leads K items last → Leads K (by_place before items) last
leads before K last [] l = l
leads before K last (i ∷ items) l = (l.0, l.1, leads (before + 1) l.0 last items l.2)

rises : (before : ℕ) (items : List Item) → RisesFrom before (by_place before items)
rises before [] = tt
rises before (i ∷ items) = (omega arith, omega arith, rises (before + 1) items)

sees : (session number before : ℕ) (items : List Item) → number ≤ before → HasSeen session number (by_place before items)
sees session number before [] le = tt
sees session number before (i ∷ items) le = ((λ _. le), sees session number (before + 1) items (omega (arith, le)))

all-see : (before : ℕ) (items : List Item) → SeesItsOwn each_call (by_place before items)
all-see before [] = tt
all-see before (i ∷ items) = ((λ _. sees 0 (before + 1) (before + 1) items (omega arith)), all-see (before + 1) items)

-- a walk looks at the calls and replies of its items alone
walk : (end : Why) (before : ℕ) (state : State) (requests : List Words) (items : List Item) (replies : List Reply) →
    Walk end state requests items replies → Walk end state requests (by_place before items) replies
walk end before state requests items replies (done s last) = done s last
walk end before state requests items replies (stopped s rs may) = stopped s rs may
walk end before state requests items replies (parted s w rs r after step e) = parted s w rs r after step e
walk end before state requests items replies (left s w rs after step e) = left s w rs after step e
walk end before state requests items replies (replied s w rs is r more after step rest) =
    replied s w rs (by_place before is) r more after step (walk end before after rs is more rest)
walk end before state requests items replies (called s w rs i is more after step rest) =
    called s w rs (record i { session = 0; number = before + 1; floor = before }) (by_place (before + 1) is) more after step
    (walk end (before + 1) after rs is more rest)
walk end before state requests items replies (not_run s w rs is more c after step rest) =
    not_run s w rs (by_place before is) more c after step (walk end before after rs is more rest)
walk end before state requests items replies (not_taken s w rs is more rest) =
    not_taken s w rs (by_place before is) more (walk end before _ rs is more rest)
walk end before state requests items replies (turned_away s is) = turned_away s is

all-theirs : (id : ℕ) (items : List Item) → AllByRecursion (λ (i : Item). i.session ≡ id) items → of_session id items ≡ items
all-theirs id [] e = refl
all-theirs id (i ∷ items) e = ap (λ b. cons_if b i (of_session id items)) (eq-eqb i.session id e.0) ∙ ap (λ l. i ∷ l) (all-theirs id items e.1)

theirs : (w : Session) (items : List Item) → AllByRecursion (λ (i : Item). IsPlace (w ∷ []) i.session) items → AllByRecursion (λ (i : Item). i.session ≡ w.id) items
theirs w [] e = tt
theirs w (i ∷ items) e = (go e.0.1, theirs w items e.1)
  where
    go : Has (w ∷ []) e.0.0 → i.session ≡ w.id
    go (inl h) = sym e.0.2 ∙ ap (λ x. x.id) (sym h)
    go (inr h) = absurd h

by-id : (id before : ℕ) (items : List Item) → id ≡ 0 → AllByRecursion (λ (i : Item). i.session ≡ id) (by_place before items)
by-id id before [] z = tt
by-id id before (i ∷ items) z = (sym z, by-id id (before + 1) items z)

place-all : (w : Session) (items : List Item) → AllByRecursion (λ (i : Item). i.session ≡ w.id) items → AllByRecursion (λ (i : Item). IsPlace (w ∷ []) i.session) items
place-all w [] e = tt
place-all w (i ∷ items) e = ((w, inl refl, sym e.0), place-all w items e.1)

pub numbered_by_place : OneSessionIsNumbered
numbered_by_place shards K items w zero p = (
  record {
    legal = (p.legal.0, leads 0 K p.legal.0 items p.legal.1);
    ordered = record { rises = rises 0 items; sees_its_own = all-see 0 items };
    spoke = (
      subst (Spoke w) (sym (all-theirs w.id (by_place 0 items) (by-id w.id 0 items zero)))
          record {
            requests = p.spoke.0.requests;
            rest = p.spoke.0.rest;
            framed = p.spoke.0.framed;
            shown = p.spoke.0.shown;
            shows = p.spoke.0.shows;
            out = p.spoke.0.out;
            output = record {
              replies = p.spoke.0.output.replies;
              walk = walk p.spoke.0.shown 0 State.Ready p.spoke.0.requests items p.spoke.0.output.replies
                  (subst (λ is. Walk p.spoke.0.shown State.Ready p.spoke.0.requests is p.spoke.0.output.replies)
                  (all-theirs w.id items (theirs w items p.placed)) p.spoke.0.output.walk);
              out_is = p.spoke.0.output.out_is;
            };
            unsent = p.spoke.0.unsent;
            front = p.spoke.0.front;
            whole = p.spoke.0.whole;
          },
      tt,
    );
    placed = place-all w (by_place 0 items) (by-id w.id 0 items zero);
  },
  numbered 0 items,
)
