-- The keyspace that entries make: what a key holds in it, what a change of one entry does to it, and its size.
use Rattle.std.proofs.Common.{◌≡◌, ◌+◌, Bool, true, false, cond, List, [], ◌∷◌, length, map, refl, sym, ap, ◌∙◌, arith}
use Rattle.std.specs.Prelude.{Option, Some, None, is_some}
use Rattle.std.specs.Option.{option_map}
use Rattle.std.specs.List.{IsDistinct, AllByRecursion}
use Rattle.std.specs.Map.{lookup, keys_of}
use Rattle.std.specs.Ordering.{nat_cmp}
use Rattle.std.specs.Cmp.Lexicographic.{slice_cmp, nat_list_cmp_total, texts_ties}
use Rattle.std.specs.FinMap.{find, get-from_entries, len-empty, len-insert}
use Rattle.std.specs.FinMap as fin
use Rattle.df_model.specs.Values.{Bytes, Value}
use Rattle.df_model.specs.Words.{same}
use Rattle.df_model.specs.Keyspace.{held, with_held}
use Rattle.df_model.proofs.LocalityLaws.{tied, held_with}
use Rattle.df_model.proofs.WholeLaws.{same_map_by, tied_is_same}
use Rattle.df_table.specs.Tables.{keyspace_of}

module _ {X : Type 0} (seen : X → Value) where
  seen_where : (b : Bool) (x : X) (other : Option X) → cond b (Some (seen x)) (option_map seen other) ≡ option_map seen (cond b (Some x) other)
  seen_where true x other = refl
  seen_where false x other = refl

  seen_cond : (b : Bool) (w v : Option X) → option_map seen (cond b w v) ≡ cond b (option_map seen w) (option_map seen v)
  seen_cond true w v = refl
  seen_cond false w v = refl

  found : (es : List (Bytes × X)) (q : Bytes) → find (slice_cmp nat_cmp) q (map (λ e. (e.0, seen e.1)) es) ≡ option_map seen (lookup (same q) es)
  found [] q = refl
  found (e ∷ es) q =
      ap (λ b. cond b (Some (seen e.1)) (find (slice_cmp nat_cmp) q (map (λ e. (e.0, seen e.1)) es))) (sym (texts_ties q e.0))
      ∙ ap (cond (same q e.0) (Some (seen e.1))) (found es q)
      ∙ seen_where (same q e.0) e.1 (lookup (same q) es)

  -- what a key holds is what its entry is seen as
  pub held_entry : (es : List (Bytes × X)) (q : Bytes) → held (keyspace_of seen es) q ≡ option_map seen (lookup (same q) es)
  held_entry es q = get-from_entries nat_list_cmp_total (map (λ e. (e.0, seen e.1)) es) q ∙ found es q

  -- entries that give one key this, or nothing, and every other key what it had
  pub entry_changed : (es fs : List (Bytes × X)) (k : Bytes) (w : Option X) → ((q : Bytes) → lookup (same q) fs ≡ cond (same k q) w (lookup (same q) es))
      → keyspace_of seen fs ≡ with_held (keyspace_of seen es) k (option_map seen w)
  entry_changed es fs k w h = same_map_by _ _ (λ q.
      held_entry fs q
      ∙ ap (option_map seen) (h q)
      ∙ seen_cond (same k q) w (lookup (same q) es)
      ∙ ap (λ b. cond b (option_map seen w) (option_map seen (lookup (same q) es))) (sym (tied_is_same q k))
      ∙ ap (cond (tied q k) (option_map seen w)) (sym (held_entry es q))
      ∙ sym (held_with (keyspace_of seen es) k (option_map seen w) q))

  -- entries that answer alike make one keyspace
  pub same_keyspace : (es fs : List (Bytes × X)) → ((q : Bytes) → lookup (same q) fs ≡ lookup (same q) es) → keyspace_of seen fs ≡ keyspace_of seen es
  same_keyspace es fs h = same_map_by _ _ (λ q. held_entry fs q ∙ ap (option_map seen) (h q) ∙ sym (held_entry es q))

  not_there : (k : Bytes) (es : List (Bytes × X)) → AllByRecursion (λ q. same k q ≡ false) (keys_of es) → lookup (same k) es ≡ None
  not_there k [] all = refl
  not_there k (e ∷ es) all = ap (λ b. cond b (Some e.1) (lookup (same k) es)) all.0 ∙ not_there k es all.1

  -- keys of which no two are equal are all counted
  pub len_entries : (es : List (Bytes × X)) → IsDistinct same (keys_of es) → fin.len (keyspace_of seen es) ≡ length es
  unfolding IsDistinct
  len_entries [] distinct = len-empty (slice_cmp nat_cmp) Value
  len_entries (e ∷ es) distinct =
      len-insert nat_list_cmp_total (keyspace_of seen es) e.0 (seen e.1)
      ∙ ap (λ v. cond (is_some v) (fin.len (keyspace_of seen es)) (fin.len (keyspace_of seen es) + 1)) (held_entry es e.0 ∙ ap (option_map seen) (not_there e.0 es distinct.0))
      ∙ one_more (len_entries es distinct.1)
    where
      one_more : fin.len (keyspace_of seen es) ≡ length es → fin.len (keyspace_of seen es) + 1 ≡ length (e ∷ es)
      one_more is = omega (arith, is)
