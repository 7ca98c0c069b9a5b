-- The visible entries of a key, by what the table has of it.
use Rattle.std.proofs.Common.{◌≡◌, ◌≤◌, List, [], ◌∷◌, ◌++◌, map, length, Bool, true, false, cond, Some, None, refl, ap, sym, ◌∙◌, arith}
use Rattle.std.specs.List.{flat_map, filter_map, cons_option}
use Rattle.std.specs.Option.{option_to_list}
use Rattle.std.proofs.lemmas.List.Elements.{filter_map-append}
use Rattle.df_model.specs.Values.{Bytes}
use Rattle.df_segment.specs.Entries.{Slot, has_key, found}
use Rattle.df_segment.specs.Buckets.{Segment, entries_of}
use Rattle.df_segment.proofs.ListLaws.{empty_of}
use Rattle.df_dashtable.specs.Visible.{under, visible_of, visible_entries}
use Rattle.df_dashtable.specs.Tables.{shown_value}
use Rattle.df_dashtable.proofs.OnceLaws.{under_found, visible_is}

module _ {V : Type 0} where
  pub all_visible : (ss : List (Segment V)) → flat_map (λ (s : Segment V). visible_entries s.buckets) ss ≡ filter_map visible_of (flat_map entries_of ss)
  all_visible [] = refl
  all_visible (s ∷ ss) = ap (λ xs. xs ++ flat_map (λ (k : Segment V). visible_entries k.buckets) ss) (visible_is s.buckets)
      ∙ ap (λ xs. filter_map visible_of (entries_of s) ++ xs) (all_visible ss)
      ∙ sym (filter_map-append visible_of (entries_of s) (flat_map entries_of ss))

  none_under : (key : Bytes) (es : List (Slot V)) → found key es ≡ [] → under key (filter_map visible_of es) ≡ []
  none_under key es none = empty_of (under key (filter_map visible_of es)) (let u = under_found key es in let f = ap length none in omega arith)

  abbrev seen : Bytes → List (Bytes × V) → List V
  seen key pairs = map (λ pair. pair.1) (under key pairs)

  visible_next : (e : Slot V) (es : List (Slot V)) (s : Bool) → e.staged ≡ s → filter_map visible_of (e ∷ es) ≡ cons_option (cond s None (Some (e.key, e.value))) (filter_map visible_of es)
  visible_next e es s is = ap (λ (b : Bool). cons_option (cond b None (Some (e.key, e.value))) (filter_map visible_of es)) is

  own_seen : (key : Bytes) (e : Slot V) (es : List (Slot V)) (s : Bool) → e.staged ≡ s → has_key key e ≡ true → found key es ≡ []
      → seen key (filter_map visible_of (e ∷ es)) ≡ option_to_list (cond s None (Some e.value))
  own_seen key e es true is has none = ap (seen key) (visible_next e es true is) ∙ ap (map (λ pair. pair.1)) (none_under key es none)
  own_seen key e es false is has none = ap (seen key) (visible_next e es false is) ∙ (rw has (ap (λ pairs. e.value ∷ map (λ pair. pair.1) pairs) (none_under key es none)))

  other_seen : (key : Bytes) (e : Slot V) (es : List (Slot V)) (s : Bool) → e.staged ≡ s → has_key key e ≡ false
      → seen key (filter_map visible_of (e ∷ es)) ≡ seen key (filter_map visible_of es)
  other_seen key e es true is has = ap (seen key) (visible_next e es true is)
  other_seen key e es false is has = ap (seen key) (visible_next e es false is) ∙ (rw has refl)

  seen_next : (key : Bytes) (e : Slot V) (es : List (Slot V)) (t : Bool) → has_key key e ≡ t → length (found key (e ∷ es)) ≤ 1
      → (length (found key es) ≤ 1 → seen key (filter_map visible_of es) ≡ option_to_list (shown_value (found key es)))
      → seen key (filter_map visible_of (e ∷ es)) ≡ option_to_list (shown_value (found key (e ∷ es)))
  seen_next key e es true has most rest =
      let m : length (e ∷ found key es) ≤ 1 = rw has at most in
      own_seen key e es e.staged refl has (empty_of (found key es) (omega arith)) ∙ (rw has refl)
  seen_next key e es false has most rest =
      let m : length (found key es) ≤ 1 = rw has at most in
      other_seen key e es e.staged refl has ∙ rest m ∙ (rw has refl)

  pub seen_is : (key : Bytes) (es : List (Slot V)) → length (found key es) ≤ 1 → seen key (filter_map visible_of es) ≡ option_to_list (shown_value (found key es))
  seen_is key [] most = refl
  seen_is key (e ∷ es) most = seen_next key e es (has_key key e) refl most (seen_is key es)
