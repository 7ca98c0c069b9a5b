-- Sets of several keys, where no key holds another kind.
use Rattle.std.proofs.Common.{◌≡◌, ℕ, zero, suc, ◌-◌, ◌<◌, Bool, true, false, List, [], ◌∷◌, length, take, drop, get_or, map, refl, sym, ap, ◌∙◌, arith}
use Rattle.std.specs.Prelude.{Option, Some, None, is_some, ◌==◌}
use Rattle.std.proofs.lemmas.Bool.{false≢true}
use Rattle.std.proofs.lemmas.List.{take_all}
use Rattle.df_model.specs.Values.{Bytes, Value, Members}
use Rattle.df_model.specs.Keyspace.{Keyspace, held}
use Rattle.df_model.specs.Meaning.Sets.{members_of, with_set, sets_of, over}
use Rattle.df_sets.specs.Combined.{combined, folded}
use Rattle.df_sets.specs.declared.combination.Combine.{Combine}
use Rattle.df_sets.proofs.CombineLaws.{folded_is}
use Rattle.df_table.specs.HeldSets.{set_in, set_at}

-- a count that was found not to be 0
pub some_left : (n : ℕ) (found : Bool) → found ≡ (n == 0) → found ≡ false → 0 < n
some_left zero found e f = absurd (false≢true (sym f ∙ e))
some_left (suc n) found e f = omega arith

first_there : (v : Option Value) (more : Option (List Members)) → is_some (with_set (members_of v) more) ≡ true → members_of v ≡ Some (set_in v)
first_there None more e = refl
first_there (Some (Value.Set s)) more e = refl
first_there (Some (Value.Str b)) more e = cc
first_there (Some (Value.Elements b)) more e = cc
first_there (Some (Value.Hash b)) more e = cc

more_there : (s : Option Members) (more : Option (List Members)) → is_some (with_set s more) ≡ true → is_some more ≡ true
more_there None more e = cc
more_there (Some s) None e = cc
more_there (Some s) (Some more) e = refl

-- the keys' sets are what is looked up key by key
pub sets_there : (K : Keyspace) (ks : List Bytes) → is_some (sets_of K ks) ≡ true → sets_of K ks ≡ Some (map (set_at K) ks)
sets_there K [] e = refl
sets_there K (k ∷ ks) e =
    ap (λ s. with_set s (sets_of K ks)) (first_there (held K k) (sets_of K ks) e)
    ∙ ap (with_set (Some (set_at K k))) (sets_there K ks (more_there (members_of (held K k)) (sets_of K ks) e))

-- the first key's set, and those of the others folded into it
pub from_first : (op : Combine) (K : Keyspace) (ks : List Bytes) (key : Bytes) (so_far made : Members) → 0 < length ks → is_some (sets_of K ks) ≡ true → key ≡ get_or ks 0 key → so_far ≡ set_at K key
    → made ≡ folded op so_far (map (set_at K) (take (length ks - 1) (drop 1 ks))) → Some made ≡ over (combined op) (sets_of K ks)
from_first op K [] key so_far made some sets is copied e = absurd (omega arith)
from_first op K (k ∷ ks) key so_far made some sets is copied e =
    let rest : take (length (k ∷ ks) - 1) ks ≡ ks = take_all (length (k ∷ ks) - 1) ks (omega arith) in
    let folded_all : made ≡ combined op (map (set_at K) (k ∷ ks)) =
    e
    ∙ ap (λ l. folded op so_far (map (set_at K) l)) rest
    ∙ ap (λ m. folded op m (map (set_at K) ks)) (copied ∙ ap (set_at K) is)
    ∙ folded_is op (set_at K k) (map (set_at K) ks) in
    ap (λ m. Some m) folded_all ∙ sym (ap (over (combined op)) (sets_there K (k ∷ ks) sets))
