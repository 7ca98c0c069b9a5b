-- Statements of laws: what the order of a whole queue says of each sender.
use Rattle.std.specs.Prelude.{◌≡◌, ℕ, Bool, List, [], ◌∷◌, ◌++◌, cond, filter}
use Rattle.df_shardqueue.specs.Placed.{Rises, items_of, merged}

-- those whose item passes the test, as the items of one sender
abbrev pub of : {M : Type 0} → (M → Bool) → List (ℕ × M) → List (ℕ × M)
of from [] = []
of from (e ∷ es) = cond (from e.1) (e ∷ of from es) (of from es)

-- a join keeps what is of a sender in both lists, in its order
abbrev pub JoinKeeps : Type 0 → Type 0
JoinKeeps M = (from : M → Bool) (xs es : List (ℕ × M)) → Rises es → of from (merged xs es) ≡ merged (of from xs) (of from es)

-- and changes nothing where the other list has nothing
abbrev pub JoinsAlone : Type 0 → Type 0
JoinsAlone M = (xs : List (ℕ × M)) → Rises xs → merged xs [] ≡ xs

-- where all that was pushed is what was popped and then what the queue holds, the same is so of each sender
abbrev pub IsFront : Type 0 → Type 0
IsFront M = (from : M → Bool) (sent taken : List (ℕ × M)) (items : List M) → items_of sent ≡ items_of taken ++ items → items_of (of from sent) ≡ items_of (of from taken) ++ filter from items
