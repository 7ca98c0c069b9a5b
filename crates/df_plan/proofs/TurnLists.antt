-- The commands of a call and the turns that are ready for them, one by one.
use Rattle.std.proofs.Common.{◌≡◌, ℕ, zero, suc, ◌<◌, List, [], ◌∷◌, ◌++◌, length, take, drop, get_or, slice_set, refl, sym, ap, ◌∙◌, subst, arith, drop-cons, length-drop}
use Rattle.std.specs.Prelude.{Some, slice_get}
use Rattle.std.proofs.lemmas.Option.{get_or_from_slice_get, slice_get_within}
use Rattle.df_model.specs.declared.command.Command.{Command}
use Rattle.df_model.specs.declared.command.Call.{Call}
use Rattle.df_model.specs.declared.command.Call.TheVariants.{Single, Exec}
use Rattle.df_turn.specs.Turns.{Ready}
use Rattle.df_turn.specs.declared.turn.Turn.{Turn}
use Rattle.df_plan.specs.Plans.{AllReady, AlikeCalls}

-- ---- lists

-- what stands from a place on begins with what stands there
pub drop-there : {T : Type 0} (xs : List T) (i : ℕ) (x : T) → slice_get xs i ≡ Some x → drop i xs ≡ x ∷ drop (suc i) xs
drop-there xs i x e = drop-cons xs i x (slice_get_within xs i x e) ∙ ap (λ y. y ∷ drop (suc i) xs) (get_or_from_slice_get xs i x x e)

-- where something stands from a place on, the place is within
pub there-within : {T : Type 0} (xs : List T) (i : ℕ) (x : T) (ys : List T) → drop i xs ≡ x ∷ ys → i < length xs
there-within xs i x ys e = omega (arith, sym (length-drop i xs) ∙ ap length e)

-- what is put into a place stands there
pub get-set : {T : Type 0} (xs : List T) (i : ℕ) (x : T) → i < length xs → slice_get (slice_set xs i x) i ≡ Some x
get-set [] i x lt = absurd (omega arith)
get-set (y ∷ ys) zero x lt = refl
get-set (y ∷ ys) (suc i) x lt = get-set ys i x (omega arith)

pub get-set-at : {T : Type 0} (xs : List T) (i j : ℕ) (x : T) → i ≡ j → i < length xs → slice_get (slice_set xs i x) j ≡ Some x
get-set-at xs i j x e lt = subst (λ k. slice_get (slice_set xs i x) k ≡ Some x) e (get-set xs i x lt)

-- and nothing behind it changes
pub drop-set-behind : {T : Type 0} (xs : List T) (i : ℕ) (x : T) → drop (suc i) (slice_set xs i x) ≡ drop (suc i) xs
drop-set-behind [] i x = refl
drop-set-behind (y ∷ ys) zero x = refl
drop-set-behind (y ∷ ys) (suc i) x = drop-set-behind ys i x

-- ---- calls

pub alike-self : (call : Call) → AlikeCalls call call
alike-self (Single command) = tt
alike-self (Exec commands) = tt

pub alike-on : (call now after : Call) → AlikeCalls call now → AlikeCalls now after → AlikeCalls call after
alike-on (Single command) (Single now) (Single after) a b = tt
alike-on (Single command) (Single now) (Exec after) a b = b
alike-on (Single command) (Exec now) after a b = absurd a
alike-on (Exec commands) (Single now) after a b = absurd a
alike-on (Exec commands) (Exec now) (Single after) a b = b
alike-on (Exec commands) (Exec now) (Exec after) a b = tt

-- ---- turns

-- one more command, with its turn
pub ready-push : (shards : ℕ) (commands : List Command) (turns : List Turn) (command : Command) (turn : Turn) → AllReady shards commands turns →
    Ready shards command turn → AllReady shards (commands ++ command ∷ []) (turns ++ turn ∷ [])
ready-push shards [] [] command turn r s = (s, tt)
ready-push shards [] (t ∷ turns) command turn r s = absurd r
ready-push shards (c ∷ commands) [] command turn r s = absurd r
ready-push shards (c ∷ commands) (t ∷ turns) command turn r s = (r.0, ready-push shards commands turns command turn r.1 s)

-- as many turns as commands
pub ready-length : (shards : ℕ) (commands : List Command) (turns : List Turn) → AllReady shards commands turns → length commands ≡ length turns
ready-length shards [] [] r = refl
ready-length shards [] (turn ∷ turns) r = absurd r
ready-length shards (command ∷ commands) [] r = absurd r
ready-length shards (command ∷ commands) (turn ∷ turns) r = ap suc (ready-length shards commands turns r.1)

-- no turn is left where no command is
pub none-left : (shards : ℕ) (left : List Command) (turns : List Turn) → turns ≡ [] → AllReady shards left turns → left ≡ []
none-left shards [] turns e r = refl
none-left shards (command ∷ left) turns e r = absurd (subst (λ ts. AllReady shards (command ∷ left) ts) e r)

-- the next turn is that of the next command
pub record NextReady (shards : ℕ) (left : List Command) (turns : List Turn) (i : ℕ) (turn : Turn) : Type 0 where
  pub command : Command
  pub commands : List Command
  pub left_is : left ≡ command ∷ commands
  pub ready : Ready shards command turn
  pub behind : AllReady shards commands (drop (suc i) turns)

pub next-ready : (shards : ℕ) (left : List Command) (turns : List Turn) (i : ℕ) (turn : Turn) → slice_get turns i ≡ Some turn →
    AllReady shards left (drop i turns) → NextReady shards left turns i turn
next-ready shards left turns i turn e r = parted left (subst (λ ts. AllReady shards left ts) (drop-there turns i turn e) r)
  where
    parted : (ls : List Command) → AllReady shards ls (turn ∷ drop (suc i) turns) → NextReady shards ls turns i turn
    parted [] s = absurd s
    parted (command ∷ commands) s = record { command = command; commands = commands; left_is = refl; ready = s.0; behind = s.1 }

-- the turn of one command more
pub ready-more : (shards : ℕ) (commands : List Command) (i : ℕ) (d : Command) (turns : List Turn) (turn : Turn) → i < length commands →
    AllReady shards (take i commands) turns → Ready shards (get_or commands i d) turn → AllReady shards (take (suc i) commands) (turns ++ turn ∷ [])
ready-more shards [] i d turns turn lt r s = absurd (omega arith)
ready-more shards (c ∷ commands) zero d [] turn lt r s = (s, tt)
ready-more shards (c ∷ commands) zero d (t ∷ turns) turn lt r s = absurd r
ready-more shards (c ∷ commands) (suc i) d [] turn lt r s = absurd r
ready-more shards (c ∷ commands) (suc i) d (t ∷ turns) turn lt r s = (r.0, ready-more shards commands i d turns turn (omega arith) r.1 s)
