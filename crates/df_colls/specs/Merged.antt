-- Entries that are put among others.
use Rattle.std.specs.Prelude.{◌≡◌, ℕ, List, [], ◌∷◌, ◌++◌, drop, T}
use Rattle.std.specs.FinMap.{put, is_sorted}
use Rattle.df_model.specs.Values.{Bytes}
use Rattle.df_colls.specs.Roomy.{order}

-- the entries with each of the new ones put in its place
abbrev pub with_put : {X : Type 0} → List (Bytes × X) → List (Bytes × X) → List (Bytes × X)
with_put [] es = es
with_put (n ∷ ns) es = with_put ns (put order n.0 n.1 es)

-- so many of both lists' first entries were merged behind the old ones: whatever follows them, what is left to merge comes next
abbrev pub IsMerged : {X : Type 0} → List (Bytes × X) → List (Bytes × X) → List (Bytes × X) → List (Bytes × X) → ℕ → ℕ → Type 0
IsMerged {X} old new ours theirs i j =
    (ls rs : List (Bytes × X)) → T (is_sorted order (theirs ++ rs)) → new ++ with_put (drop j (theirs ++ rs)) (drop i (ours ++ ls)) ≡ old ++ with_put (theirs ++ rs) (ours ++ ls)
