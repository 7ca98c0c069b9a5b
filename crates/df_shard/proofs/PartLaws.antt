-- What is shown of staged changes, and how many puts they are, by the last of them.
use Rattle.std.proofs.Common.{◌≡◌, ℕ, ◌+◌, cond, List, [], ◌∷◌, ◌++◌, refl, ap, ◌∙◌, arith}
use Rattle.std.specs.Prelude.{Option, Some, None, is_some}
use Rattle.std.specs.Option.{option_map}
use Rattle.df_model.specs.Values.{Bytes}
use Rattle.df_model.specs.Keyspace.{Keyspace, with_held}
use Rattle.df_log.specs.Changes.{with_changes}
use Rattle.df_values.specs.Seen.{seen}
use Rattle.df_values.specs.declared.value.Value.{Value}
use Rattle.df_shard.specs.Holds.{changes_seen, puts_in}

-- a change as it is staged
abbrev pub Change : Type 0
Change = Bytes × Option Value

shown-append : (changes : List Change) (c : Change) (K : Keyspace) →
    with_changes (changes_seen (changes ++ c ∷ [])) K ≡ with_changes (changes_seen changes) (with_held K c.0 (option_map seen c.1))
shown-append [] c K = refl
shown-append (d ∷ changes) c K = ap (λ M. with_held M d.0 (option_map seen d.1)) (shown-append changes c K)

pub shown-last : (all changes : List Change) (c : Change) (K : Keyspace) → all ≡ changes ++ c ∷ [] →
    with_changes (changes_seen all) K ≡ with_changes (changes_seen changes) (with_held K c.0 (option_map seen c.1))
shown-last all changes c K e = ap (λ l. with_changes (changes_seen l) K) e ∙ shown-append changes c K

-- 1 for a put
abbrev pub put_in : Option Value → ℕ
put_in v = cond (is_some v) 1 0

seen-put : (v : Option Value) → puts_in (([], option_map seen v) ∷ []) ≡ put_in v
seen-put (Some v) = refl
seen-put None = refl

puts-append : (changes : List Change) (c : Change) → puts_in (changes_seen (changes ++ c ∷ [])) ≡ puts_in (changes_seen changes) + put_in c.1
puts-append [] c = omega (arith, seen-put c.1)
puts-append (d ∷ changes) c = omega (arith, puts-append changes c)

pub puts-last : (all changes : List Change) (c : Change) → all ≡ changes ++ c ∷ [] →
    puts_in (changes_seen all) ≡ puts_in (changes_seen changes) + put_in c.1
puts-last all changes c e = ap (λ l. puts_in (changes_seen l)) e ∙ puts-append changes c
