-- Lists that grow at their end, and the maps that they make.
use Rattle.std.proofs.Common.{◌≡◌, ◌≢◌, inl, inr, Bool, true, false, cond, List, [], ◌∷◌, ◌++◌, map, refl, sym, ap, subst, ◌∙◌, append_assoc, append-nil}
use Rattle.std.specs.Prelude.{Option, Some, None, is_some, not}
use Rattle.std.specs.Option.{option_map}
use Rattle.std.specs.Map.{lookup}
use Rattle.std.specs.Ordering.{nat_cmp}
use Rattle.std.specs.Cmp.Lexicographic.{slice_cmp, nat_list_cmp_total, texts_ties}
use Rattle.std.specs.List.{AllByRecursion}
use Rattle.std.specs.FinMap.{find, get-from_entries, get-insert, from_entries, from_entries_push, slice_cmp-IsAntisymmetric, nat_cmp-IsAntisymmetric}
use Rattle.std.specs.FinMap as fin
use Rattle.df_model.specs.Values.{Bytes}
use Rattle.df_model.specs.Words.{same}
use Rattle.df_model.specs.Keyspace.{held}
use Rattle.df_model.specs.Members as members
use Rattle.df_model.proofs.LocalityLaws.{tied}
use Rattle.df_model.proofs.WholeLaws.{same_map_by, tied_is_same, tied_bytes}
use Rattle.df_values.specs.Seen.{seen}
use Rattle.df_values.specs.declared.value.Value.{Value}
use Rattle.df_rdbcore.specs.Parts.{Entry, InTurn, NoneTwice, Pair, firsts, members_of, fields_of}
use Rattle.df_rdbcore.specs.Files.{keyspace_of}
use Rattle.df_rdbcore.proofs.MapLaws.{tied_self}
use Rattle.df_rdbload.specs.Stops.{IsIn}
use Rattle.df_rdbload.specs.FileStops.{added}
use Rattle.df_rdbload.specs.Entries.{keyspace_in, Adds}

-- ---- lists

pub in_turn_push : {A : Type 0} (P : Bytes → A → Type 0) (front form : Bytes) (xs : List A) (x : A) → InTurn P front xs → P form x → InTurn P (front ++ form) (xs ++ x ∷ [])
in_turn_push P front form [] x e p = (form, [], p, refl, ap (λ z. z ++ form) e ∙ sym (append-nil form))
in_turn_push P front form (y ∷ xs) x (first, rest, py, ps, e) p = (first, rest ++ form, py, in_turn_push P rest form xs x ps p, ap (λ z. z ++ form) e ∙ append_assoc first rest form)

all_push : (Q : Bytes → Type 0) (xs : List Bytes) (x : Bytes) → AllByRecursion Q xs → Q x → AllByRecursion Q (xs ++ x ∷ [])
all_push Q [] x all q = (q, tt)
all_push Q (y ∷ xs) x all q = (all.0, all_push Q xs x all.1 q)

pub once_push : (xs : List Bytes) (x : Bytes) → NoneTwice xs → (IsIn x xs → ⊥) → NoneTwice (xs ++ x ∷ [])
once_push [] x once isnt = (tt, tt)
once_push (y ∷ xs) x once isnt = (all_push (λ z. y ≢ z) xs x once.0 (λ e. isnt (inl (sym e))), once_push xs x once.1 (λ h. isnt (inr h)))

pub firsts_push : {X : Type 0} (es : List (Bytes × X)) (e : Bytes × X) → firsts (es ++ e ∷ []) ≡ firsts es ++ e.0 ∷ []
firsts_push [] e = refl
firsts_push (f ∷ es) e = ap (λ z. f.0 ∷ z) (firsts_push es e)

pub added_none : (parts : List (Option Entry)) → added (parts ++ None ∷ []) ≡ added parts
added_none [] = refl
added_none (None ∷ parts) = added_none parts
added_none (Some entry ∷ parts) = ap (λ z. entry ∷ z) (added_none parts)

pub added_some : (parts : List (Option Entry)) (entry : Entry) → added (parts ++ Some entry ∷ []) ≡ added parts ++ entry ∷ []
added_some [] entry = refl
added_some (None ∷ parts) entry = added_some parts entry
added_some (Some other ∷ parts) entry = ap (λ z. other ∷ z) (added_some parts entry)

-- ---- keys among entries

module _ {X : Type 0} where
  found_where : (b : Bool) (k : Bytes) (e : Bytes × X) (es : List (Bytes × X)) → tied k e.0 ≡ b → is_some (cond b (Some e.1) (find (slice_cmp nat_cmp) k es)) ≡ true
      → (is_some (find (slice_cmp nat_cmp) k es) ≡ true → IsIn k (firsts es)) → IsIn k (firsts (e ∷ es))
  found_where true k e es t f next = inl (tied_bytes k e.0 t)
  found_where false k e es t f next = inr (next f)

  pub found_in : (es : List (Bytes × X)) (k : Bytes) → is_some (find (slice_cmp nat_cmp) k es) ≡ true → IsIn k (firsts es)
  found_in [] k f = cc
  found_in (e ∷ es) k f = found_where (tied k e.0) k e es refl f (found_in es k)

  hidden : (b : Bool) (e : Bytes × X) (o : Option X) → b ≡ true → is_some (cond b (Some e.1) o) ≡ false → ⊥
  hidden true e o t f = cc
  hidden false e o t f = cc

  passed : (b : Bool) (e : Bytes × X) (o : Option X) → is_some (cond b (Some e.1) o) ≡ false → is_some o ≡ false
  passed true e o f = cc
  passed false e o f = f

  pub not_found : (es : List (Bytes × X)) (k : Bytes) → is_some (find (slice_cmp nat_cmp) k es) ≡ false → IsIn k (firsts es) → ⊥
  not_found [] k f h = h
  not_found (e ∷ es) k f (inl is) = hidden (tied k e.0) e (find (slice_cmp nat_cmp) k es) (subst (λ z. tied k z ≡ true) is (tied_self k)) f
  not_found (e ∷ es) k f (inr h) = not_found es k (passed (tied k e.0) e (find (slice_cmp nat_cmp) k es) f) h

  none_of : (o : Option X) → is_some o ≡ false → o ≡ None
  none_of None f = refl
  none_of (Some x) f = cc

  pub pushed : (es : List (Bytes × X)) (k : Bytes) (x : X) → is_some (find (slice_cmp nat_cmp) k es) ≡ false → from_entries {R = slice_cmp nat_cmp} (es ++ (k, x) ∷ []) ≡ fin.insert (from_entries es) k x
  pushed es k x f = from_entries_push nat_list_cmp_total (slice_cmp-IsAntisymmetric nat_cmp-IsAntisymmetric) es k x (none_of (find (slice_cmp nat_cmp) k es) f)

-- ---- sets and hashes

abbrev marked : List Bytes → List (Bytes × Unit {0})
marked texts = map (λ text. (text, tt)) texts

firsts_marked : (texts : List Bytes) → firsts (marked texts) ≡ texts
firsts_marked [] = refl
firsts_marked (t ∷ texts) = ap (λ z. t ∷ z) (firsts_marked texts)

marked_push : (texts : List Bytes) (t : Bytes) → marked (texts ++ t ∷ []) ≡ marked texts ++ (t, tt) ∷ []
marked_push [] t = refl
marked_push (u ∷ texts) t = let first : Bytes × Unit {0} = (u, tt) in ap (λ z. first ∷ z) (marked_push texts t)

not_false : (b : Bool) → not b ≡ false → b ≡ true
not_false true e = refl
not_false false e = cc

not_true : (b : Bool) → not b ≡ true → b ≡ false
not_true true e = cc
not_true false e = refl

set_find : (texts : List Bytes) (t : Bytes) → members.contains (members_of texts) t ≡ is_some (find (slice_cmp nat_cmp) t (marked texts))
set_find texts t = ap is_some (get-from_entries nat_list_cmp_total (marked texts) t)

pub member_again : (texts : List Bytes) (t : Bytes) → not (members.contains (members_of texts) t) ≡ false → IsIn t texts
member_again texts t e = subst (IsIn t) (firsts_marked texts) (found_in (marked texts) t (sym (set_find texts t) ∙ not_false _ e))

pub member_new : (texts : List Bytes) (t : Bytes) → not (members.contains (members_of texts) t) ≡ true → IsIn t texts → ⊥
member_new texts t e h = not_found (marked texts) t (sym (set_find texts t) ∙ not_true _ e) (subst (IsIn t) (sym (firsts_marked texts)) h)

pub member_pushed : (texts : List Bytes) (t : Bytes) → not (members.contains (members_of texts) t) ≡ true → members.insert (members_of texts) t ≡ members_of (texts ++ t ∷ [])
member_pushed texts t e =
    sym (pushed (marked texts) t tt (sym (set_find texts t) ∙ not_true _ e)) ∙ sym (ap (from_entries {R = slice_cmp nat_cmp}) (marked_push texts t))

hash_find : (pairs : List Pair) (k : Bytes) → is_some (fin.get (fields_of pairs) k) ≡ is_some (find (slice_cmp nat_cmp) k pairs)
hash_find pairs k = ap is_some (get-from_entries nat_list_cmp_total pairs k)

pub field_again : (pairs : List Pair) (k : Bytes) → is_some (fin.get (fields_of pairs) k) ≡ true → IsIn k (firsts pairs)
field_again pairs k e = found_in pairs k (sym (hash_find pairs k) ∙ e)

pub field_new : (pairs : List Pair) (k : Bytes) → is_some (fin.get (fields_of pairs) k) ≡ false → IsIn k (firsts pairs) → ⊥
field_new pairs k e = not_found pairs k (sym (hash_find pairs k) ∙ e)

pub field_pushed : (pairs : List Pair) (k v : Bytes) → is_some (fin.get (fields_of pairs) k) ≡ false → fin.insert (fields_of pairs) k v ≡ fields_of (pairs ++ (k, v) ∷ [])
field_pushed pairs k v e = sym (pushed pairs k v (sym (hash_find pairs k) ∙ e))

-- ---- the keys of a file

seen_where : (b : Bool) (x : Value) (other : Option Value) → cond b (Some (seen x)) (option_map seen other) ≡ option_map seen (cond b (Some x) other)
seen_where true x other = refl
seen_where false x other = refl

found_seen : (es : List (Bytes × Value)) (q : Bytes) → find (slice_cmp nat_cmp) q (map (λ e. (e.0, seen e.1)) es) ≡ option_map seen (lookup (same q) es)
found_seen [] q = refl
found_seen (e ∷ es) q =
    ap (λ b. cond b (Some (seen e.1)) (find (slice_cmp nat_cmp) q (map (λ e. (e.0, seen e.1)) es))) (sym (texts_ties q e.0))
    ∙ ap (cond (same q e.0) (Some (seen e.1))) (found_seen es q)
    ∙ seen_where (same q e.0) e.1 (lookup (same q) es)

-- what a key of the map holds
held_in : (es : List (Bytes × Value)) (q : Bytes) → held (keyspace_in es) q ≡ option_map seen (lookup (same q) es)
held_in es q = get-from_entries nat_list_cmp_total (map (λ e. (e.0, seen e.1)) es) q ∙ found_seen es q

some_seen : (o : Option Value) → is_some (option_map seen o) ≡ is_some o
some_seen None = refl
some_seen (Some x) = refl

key_find : (read : List Entry) (es : List (Bytes × Value)) (k : Bytes) → keyspace_of read ≡ keyspace_in es → is_some (find (slice_cmp nat_cmp) k read) ≡ is_some (lookup (same k) es)
key_find read es k e =
    ap is_some (sym (get-from_entries nat_list_cmp_total read k) ∙ ap (λ K. held K k) e ∙ held_in es k) ∙ some_seen (lookup (same k) es)

pub key_again : (read : List Entry) (es : List (Bytes × Value)) (k : Bytes) → keyspace_of read ≡ keyspace_in es → is_some (lookup (same k) es) ≡ true → IsIn k (firsts read)
key_again read es k e f = found_in read k (key_find read es k e ∙ f)

pub key_new : (read : List Entry) (es : List (Bytes × Value)) (k : Bytes) → keyspace_of read ≡ keyspace_in es → is_some (lookup (same k) es) ≡ false → IsIn k (firsts read) → ⊥
key_new read es k e f = not_found read k (key_find read es k e ∙ f)

seen_cond : (b : Bool) (v : Value) (o : Option Value) → option_map seen (cond b (Some v) o) ≡ cond b (Some (seen v)) (option_map seen o)
seen_cond true v o = refl
seen_cond false v o = refl

-- the map with a key that it hadn't
pub key_added : (read : List Entry) (es fs : List (Bytes × Value)) (k : Bytes) (v : Value) → keyspace_of read ≡ keyspace_in es → is_some (lookup (same k) es) ≡ false
    → ((q : Bytes) → lookup (same q) fs ≡ cond (same k q) (Some v) (lookup (same q) es)) → Adds (Some (k, seen v)) read fs
key_added read es fs k v e new put =
    let grown : keyspace_in fs ≡ fin.insert (keyspace_in es) k (seen v) = same_map_by _ _ (λ q.
    held_in fs q
    ∙ ap (option_map seen) (put q)
    ∙ seen_cond (same k q) v (lookup (same q) es)
    ∙ ap (λ b. cond b (Some (seen v)) (option_map seen (lookup (same q) es))) (sym (tied_is_same q k))
    ∙ ap (cond (tied q k) (Some (seen v))) (sym (held_in es q))
    ∙ sym (get-insert nat_list_cmp_total (keyspace_in es) k (seen v) q)) in (
      key_new read es k e new,
      pushed read k (seen v) (key_find read es k e ∙ new) ∙ ap (λ K. fin.insert K k (seen v)) e ∙ sym grown,
    )
