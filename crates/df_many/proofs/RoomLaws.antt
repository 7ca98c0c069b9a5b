-- Messages put into a round and taken out of it, shard after shard.
use Rattle.std.proofs.Common.{◌≡◌, ◌≢◌, ℕ, zero, suc, ◌+◌, ◌<◌, ◌≤◌, Bool, true, false, is_some, length, List, [], ◌∷◌, ◌++◌, inl, inr, refl, sym, ap, ◌∙◌, subst, arith}
use Rattle.std.specs.Prelude.{◌⊎◌, Option, Some, None, IfNone, IfSome, get_or, set}
use Rattle.std.proofs.lemmas.Bool.{false≢true, cases_lt}
use Rattle.std.specs.Option.{option_map}
use Rattle.std.specs.Global.{Box}
use Rattle.std.proofs.lemmas.List.{get_or-set_other, get_or_read}
use Rattle.df_model.specs.declared.keys.Keys.{Keys}
use Rattle.df_hops.specs.declared.answer.Outcome.{Outcome}
use Rattle.df_book.specs.Passes.{BookName, Caller}
use Rattle.df_post.specs.Rounds.{Place, Idle, Unsent, Sent, Answered, RoundView, awaited_in, place_at, is_done}
use Rattle.df_post.specs.declared.awaited.Awaited.{Awaited}
use Rattle.df_post.specs.declared.awaited.Kind.{Kind}
use Rattle.df_post.specs.declared.awaited.Kind.TheVariants as kinds
use Rattle.df_post.proofs.RoundLaws.{each-set}
use Rattle.df_model.specs.declared.command.Call.{Call}
use Rattle.df_footprints.specs.Footprints.{footprint_of}
use Rattle.df_core.specs.History.{NamesAShard}
use Rattle.df_keys.specs.Asked.{FootprintsStand, footprint_there}
use Rattle.df_many.specs.Rooms.{AllIdle, AllOf, IsRoom, OfKind, SameWay, is_asked}
use Rattle.df_many.specs.declared.places.Placed.{Placed}
use Rattle.df_many.specs.declared.places.Placed.TheVariants as places
use Rattle.df_many.specs.declared.room.Room.{Room}
use Rattle.df_exchange.specs.Asks.{heard_of}
use Rattle.df_exchange.specs.Exchanges.{asked_in}

-- ---- put in

-- the shards below t may have messages of this kind, and the others have none
abbrev pub Asks : Kind → ℕ → RoundView → Type 0
Asks kind t round = (s : ℕ) → OfKind kind (asked_in (place_at s round)) × (awaited_in (place_at s round) ≡ None) × (t ≤ s → place_at s round ≡ Idle)

pub asks-none : (kind : Kind) (round : RoundView) → AllIdle round → Asks kind 0 round
asks-none kind round idle s = (subst (λ p. OfKind kind (asked_in p)) (sym (idle s)) tt, ap awaited_in (idle s), λ le. idle s)

pub asks-skip : (kind : Kind) (t : ℕ) (round : RoundView) → Asks kind t round → Asks kind (t + 1) round
asks-skip kind t round a s = ((a s).0, (a s).1, λ le. (a s).2 (omega (arith, le)))

pub asks-add : (kind : Kind) (t : ℕ) (round now : RoundView) (a : Awaited) → Asks kind t round → a.kind ≡ kind →
    now.places ≡ set round.places t (Unsent a) → Asks kind (t + 1) now
asks-add kind t round now a asks is places s =
    subst (λ ps. OfKind kind (asked_in (get_or ps s Idle)) × (awaited_in (get_or ps s Idle) ≡ None) × (t + 1 ≤ s → get_or ps s Idle ≡ Idle)) (sym places)
    (each-set (λ i p. OfKind kind (asked_in p) × (awaited_in p ≡ None) × (t + 1 ≤ i → p ≡ Idle)) round.places t (Unsent a) Idle
    (λ i. ((asks i).0, (asks i).1, λ le. (asks i).2 (omega (arith, le)))) (is, refl, λ le. absurd (omega (arith, le))) s)

pub asks-all : (kind : Kind) (t : ℕ) (round : RoundView) → Asks kind t round → AllOf kind round
asks-all kind t round a s = (a s).0

-- none of them was sent yet
pub asks-way : (z : BookName) (n t : ℕ) (kind : Kind) (old new : Room) → IsRoom z n old → IsRoom z n new → AllIdle old.round → Asks kind t new.round →
    SameWay old.round new.round
asks-way z n t kind old new was is idle asks = record {
  book = is.book ∙ sym was.book;
  places = is.places ∙ sym was.places;
  awaits = λ s. (asks s).1 ∙ sym (ap awaited_in (idle s));
}

-- ---- taken out

-- nothing is on its way, and the shards below t have nothing left
abbrev pub Heard : ℕ → RoundView → Type 0
Heard t round = (s : ℕ) → (is_done (place_at s round) ≡ true) × (s < t → place_at s round ≡ Idle)

pub heard-none : (round : RoundView) → ((s : ℕ) → is_done (place_at s round) ≡ true) → Heard 0 round
heard-none round done s = (done s, λ lt. absurd (omega (arith, lt)))

pub heard-more : (t : ℕ) (round now : RoundView) → Heard t round → now.places ≡ set round.places t Idle → t < length round.places → Heard (t + 1) now
heard-more t round now h places there s =
    subst (λ ps. (is_done (get_or ps s Idle) ≡ true) × (s < t + 1 → get_or ps s Idle ≡ Idle)) (sym places) (go round.places t h there s)
  where
    go : (ps : List Place) (k : ℕ) → ((i : ℕ) → (is_done (get_or ps i Idle) ≡ true) × (i < k → get_or ps i Idle ≡ Idle)) → k < length ps → (i : ℕ) →
        (is_done (get_or (set ps k Idle) i Idle) ≡ true) × (i < k + 1 → get_or (set ps k Idle) i Idle ≡ Idle)
    go [] k f lt i = absurd (omega (arith, lt))
    go (p ∷ ps) zero f lt zero = (refl, λ l. refl)
    go (p ∷ ps) zero f lt (suc i) = ((f (suc i)).0, λ l. absurd (omega (arith, l)))
    go (p ∷ ps) (suc k) f lt zero = ((f zero).0, λ l. (f zero).1 (omega arith))
    go (p ∷ ps) (suc k) f lt (suc i) =
        let h = go ps k (λ j. ((f (suc j)).0, λ l. (f (suc j)).1 (omega (arith, l)))) (omega (arith, lt)) i in (h.0, λ l. h.1 (omega (arith, l)))

idle-set : (ps : List Place) (k : ℕ) → get_or ps k Idle ≡ Idle → set ps k Idle ≡ ps
idle-set [] k e = refl
idle-set (p ∷ ps) zero e = ap (λ q. q ∷ ps) (sym e)
idle-set (p ∷ ps) (suc k) e = ap (λ qs. p ∷ qs) (idle-set ps k e)

done-idle : (p : Place) → is_done p ≡ true → ((a : Awaited) → p ≡ Answered a → ⊥) → p ≡ Idle
done-idle Idle done not = refl
done-idle (Unsent a) done not = absurd (false≢true done)
done-idle (Sent a) done not = absurd (false≢true done)
done-idle (Answered a) done not = absurd (not a refl)

-- nothing was there, so it is as if it had been taken out
pub none-so : (round now : RoundView) (s : ℕ) → is_done (place_at s round) ≡ true → (now ≡ round) × ((a : Awaited) → place_at s round ≡ Answered a → ⊥) →
    now ≡ record round { places = set round.places s Idle }
none-so round now s done none =
    none.0 ∙ λ j. record round { places = sym (idle-set round.places s (done-idle (place_at s round) done none.1)) j }

-- whether there was an answer or none
pub taken-so : {A : Type 0} (o : Option A) (P : A → Type 0) (round now : RoundView) (s : ℕ) →
    ((x : A) → P x → now ≡ record round { places = set round.places s Idle }) → is_done (place_at s round) ≡ true → IfSome o P →
    IfNone o ((now ≡ round) × ((a : Awaited) → place_at s round ≡ Answered a → ⊥)) → now ≡ record round { places = set round.places s Idle }
taken-so None P round now s got done some none = none-so round now s done none
taken-so (Some x) P round now s got done some none = got x some

past : (ps : List Place) (s : ℕ) → length ps ≤ s → get_or ps s Idle ≡ Idle
past [] s le = refl
past (p ∷ ps) zero le = absurd (omega (arith, le))
past (p ∷ ps) (suc s) le = past ps s (omega (arith, le))

pub heard-all : (t : ℕ) (round : RoundView) → Heard t round → length round.places ≤ t → AllIdle round
heard-all t round h le s = elim (cases_lt s t) [ inl lt ↦ (h s).1 lt | inr ge ↦ past round.places s (omega (arith, le, ge)) ]

pub done-awaits : (p : Place) → is_done p ≡ true → awaited_in p ≡ None
done-awaits Idle done = refl
done-awaits (Unsent a) done = absurd (false≢true done)
done-awaits (Sent a) done = absurd (false≢true done)
done-awaits (Answered a) done = refl

-- and nothing was on its way before
pub heard-way : (old new : RoundView) → new.book ≡ old.book → length new.places ≡ length old.places → ((s : ℕ) → is_done (place_at s old) ≡ true) →
    AllIdle new → SameWay old new
heard-way old new book places done idle = record {
  book = book;
  places = places;
  awaits = λ s. ap awaited_in (idle s) ∙ sym (done-awaits (place_at s old) (done s));
}

-- ---- who was asked

-- the answer that a place holds was asked for
pub answered-asked : (p : Place) (a : Awaited) → p ≡ Answered a → is_asked p ≡ true
answered-asked p a e = ap is_asked e

-- what was taken out before is not asked any more, and nothing else was put in
pub asked-set : (round now : RoundView) (t : ℕ) (first : RoundView) → now.places ≡ set round.places t Idle →
    ((s : ℕ) → is_asked (place_at s round) ≡ true → is_asked (place_at s first) ≡ true) →
    (s : ℕ) → is_asked (place_at s now) ≡ true → is_asked (place_at s first) ≡ true
asked-set round now t first places f s =
    subst (λ ps. is_asked (get_or ps s Idle) ≡ true → is_asked (place_at s first) ≡ true) (sym places)
    (each-set (λ i p. is_asked p ≡ true → is_asked (place_at i first) ≡ true) round.places t Idle Idle f (λ e. absurd (false≢true e)) s)

-- some shard was asked, unless all say that the call has its place there
abbrev pub SomeAsked : Placed → RoundView → Type 0
SomeAsked placed round = placed ≢ places.Everywhere → (s : ℕ) × (is_asked (place_at s round) ≡ true)

pub some-asked : (one other both : Placed) (round : RoundView) → (both ≡ one) ⊎ (both ≡ other) → SomeAsked one round → SomeAsked other round →
    SomeAsked both round
some-asked one other both round is first second not =
    elim is [ inl e ↦ first (λ all. not (e ∙ all)) | inr e ↦ second (λ all. not (e ∙ all)) ]

abbrev is_everywhere : Placed → Bool
is_everywhere places.Everywhere = true
is_everywhere places.Refused = false
is_everywhere places.NoMemory = false

pub refused-not : (placed : Placed) → placed ≡ places.Refused → placed ≢ places.Everywhere
refused-not placed is all = false≢true (sym (ap is_everywhere is) ∙ ap is_everywhere all)

pub wanting-not : (placed : Placed) → placed ≡ places.NoMemory → placed ≢ places.Everywhere
wanting-not placed is all = false≢true (sym (ap is_everywhere is) ∙ ap is_everywhere all)

-- what is taken for a shard is the call's footprint there
pub found-there : (shards t : ℕ) (call : Call) (was now : List (Option (Box Keys))) (item : Option (Box Keys)) (k : Box Keys) → t < length now →
    item ≡ get_or now t item → item ≡ Some k → ((s : ℕ) → t ≤ s → footprint_there s now ≡ footprint_there s was) → FootprintsStand shards call was →
    t < shards → Some k.value ≡ footprint_of shards call t
found-there shards t call was now item k there read is same stand lt =
    sym (ap (option_map (λ (b : Box Keys). b.value)) is) ∙ ap (option_map (λ (b : Box Keys). b.value)) (get_or_read now t item there read None)
    ∙ same t (omega arith) ∙ stand.1 t lt

-- what is taken for a shard leaves what is there for the later ones
pub later-there : (keys : List (Option (Box Keys))) (t : ℕ) (new : Option (Box Keys)) (s : ℕ) → t + 1 ≤ s →
    footprint_there s (set keys t new) ≡ footprint_there s keys
later-there keys t new s le = ap (option_map (λ (b : Box Keys). b.value)) (get_or-set_other keys t s new None (λ e. omega (arith, e, le)))

-- where its footprint is there the call names a shard
pub names-there : (shards s : ℕ) (call : Call) (keys : Keys) → Some keys ≡ footprint_of shards call s → NamesAShard shards call
names-there shards s call keys there = (s, λ none. false≢true (sym (ap is_some (there ∙ none))))

-- The shards below t were asked for places: v and was are as they were before the first.
abbrev pub PlacesAsked : BookName → ℕ → ℕ → Call → Caller → Room → Caller → Room → Type 0
PlacesAsked z n t call v was u now =
    (u ≡ v) × IsRoom z n now × Asks kinds.Place t now.round
    × ((s : ℕ) → t ≤ s → footprint_there s now.keys.items ≡ footprint_there s was.keys.items) × (now.plan ≡ was.plan)
    × ((s : ℕ) → is_asked (place_at s now.round) ≡ true → NamesAShard n call)

-- ---- what was heard

pub clear-push : (outcomes : List (Option Outcome)) → ((s : ℕ) → heard_of s outcomes ≡ None) → (s : ℕ) → heard_of s (outcomes ++ None ∷ []) ≡ None
clear-push [] f zero = refl
clear-push [] f (suc s) = refl
clear-push (o ∷ os) f zero = f zero
clear-push (o ∷ os) f (suc s) = clear-push os (λ i. f (suc i)) s
