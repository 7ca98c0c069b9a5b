-- A new table, and one whose version rises.
use Rattle.std.proofs.Common.{◌≡◌, ℕ, zero, suc, ◌<◌, ◌≤◌, List, [], ◌∷◌, ◌++◌, length, get_or, take, drop, replicate, length-append, refl, ap, sym, subst, ◌∙◌, arith}
use Rattle.std.specs.List.{flat_map, filter}
use Rattle.std.specs.Prelude.{slice_index}
use Rattle.df_model.specs.Values.{Bytes}
use Rattle.df_segment.specs.Entries.{Slot, found}
use Rattle.df_segment.specs.Buckets.{Bucket, Segment, entries_of, bucket_at, no_bucket}
use Rattle.df_segment.proofs.ListLaws.{flat_map_parted, filter_flat_map, empty_of}
use Rattle.df_segment.proofs.SplitLaws.{empty_in, empty_version}
use Rattle.df_dashtable.specs.Visible.{visible_entries, older_entries}
use Rattle.df_dashtable.specs.Tables.{IsTable, Reached, segment_at, no_segment}
use Rattle.df_dashtable.proofs.CutLaws.{raise_takes}

abbrev first : (V : Type 0) → Segment V
first V = record { depth = 0; buckets = replicate 60 (record { version = 0; entries = [] }) }

one_table : {V : Type 0} → IsTable {V = V} 0 0 (0 ∷ []) (first V ∷ [])
one_table {V} = record {
  deep = omega arith;
  whole = refl;
  named = λ q w. named_in q w;
  shallow = λ s w. at_first (λ x. x.depth ≤ 0) (omega arith) s w;
  shared = omega arith;
  homed = λ s key w n. at_first (λ x. found key (entries_of x) ≡ []) (ap (found key) (empty_in 60 0)) s w;
  once = λ s w. at_first (λ x. (key : Bytes) → length (found key (entries_of x)) ≤ 1) (λ key. (let e = ap (λ (xs : List (Slot V)). length (found key xs)) (empty_in 60 0) in omega arith)) s w;
  reached = λ s w. at_first (Reached 0) (λ b h. record { low = empty_version V 60 0 b; fresh = λ o. absurd (omega arith) }) s w;
}
  where
    named_in : (q : ℕ) → q < 1 → slice_index (0 ∷ []) q < 1
    named_in zero w = omega arith
    named_in (suc q) w = absurd (omega arith)

    at_first : (P : Segment V → Type 0) → P (first V) → (s : ℕ) → s < 1 → P (segment_at (first V ∷ []) s)
    at_first P h zero w = h
    at_first P h (suc s) w = absurd (omega arith)

pub new_table : {V : Type 0} (directory : List ℕ) (ss : List (Segment V)) (x : Segment V) → directory ≡ 0 ∷ [] → ss ≡ x ∷ [] → x ≡ first V → IsTable 0 0 directory ss
new_table {V} directory ss x d s e =
    subst (λ (k : List ℕ). IsTable {V = V} 0 0 k ss) (sym d)
    (subst (λ (k : List (Segment V)). IsTable 0 0 (0 ∷ []) k) (sym (s ∙ ap (λ y. y ∷ []) e)) one_table)

pub new_none : {V : Type 0} (ss : List (Segment V)) (x : Segment V) → ss ≡ x ∷ [] → x ≡ first V → flat_map entries_of ss ≡ []
new_none {V} ss x s e = ap (flat_map entries_of) (s ∙ ap (λ y. y ∷ []) e) ∙ refl

-- above all versions everything is older
pub raised_older : {V : Type 0} (version v : ℕ) (ss : List (Segment V)) → version < v → ((s : ℕ) → s < length ss → Reached version (segment_at ss s))
    → flat_map (λ (k : Segment V). older_entries v k.buckets) ss ≡ flat_map (λ (k : Segment V). visible_entries k.buckets) ss
raised_older version v [] above reached = refl
raised_older version v (x ∷ ss) above reached =
    ap (λ xs. xs ++ flat_map (λ k. older_entries v k.buckets) ss) (raise_takes v no_bucket x.buckets (λ b w. let h = (reached 0 (omega arith) b w).low in omega arith))
    ∙ ap (λ xs. visible_entries x.buckets ++ xs) (raised_older version v ss above (λ s w. reached (suc s) (omega arith)))

-- where a flat map is empty, each part is
pub part_none : {X A : Type 0} (f : X → List A) (d : X) (xs : List X) (i : ℕ) → i < length xs → flat_map f xs ≡ [] → f (get_or xs i d) ≡ []
part_none f d xs i w h = empty_of (f (get_or xs i d))
    (let e = ap length (sym (flat_map_parted f d xs i w) ∙ h) in
    let a = length-append (flat_map f (take i xs)) (f (get_or xs i d) ++ flat_map f (drop (suc i) xs)) in
    let b = length-append (f (get_or xs i d)) (flat_map f (drop (suc i) xs)) in omega arith)

pub raised_table : {V : Type 0} (version v depth : ℕ) (directory : List ℕ) (ss : List (Segment V)) → version < v → filter (λ (e : Slot V). e.staged) (flat_map entries_of ss) ≡ [] → IsTable version depth directory ss → IsTable v depth directory ss
raised_table {V} version v depth directory ss above none t = record {
  deep = t.deep;
  whole = t.whole;
  named = t.named;
  shallow = t.shallow;
  shared = t.shared;
  homed = t.homed;
  once = t.once;
  reached = λ s w b h. record { low = (let r = (t.reached s w b h).low in omega arith); fresh = λ o. nowhere s w b h };
}
  where
    nowhere : (s : ℕ) → s < length ss → (b : ℕ) → b < length (segment_at ss s).buckets → filter (λ (e : Slot V). e.staged) (bucket_at (segment_at ss s).buckets b).entries ≡ []
    nowhere s w b h =
        let one : filter (λ (e : Slot V). e.staged) (entries_of (segment_at ss s)) ≡ [] =
        part_none (λ (x : Segment V). filter (λ (e : Slot V). e.staged) (entries_of x)) no_segment ss s w (sym (filter_flat_map (λ (e : Slot V). e.staged) entries_of ss) ∙ none) in
        part_none (λ (x : Bucket V). filter (λ (e : Slot V). e.staged) x.entries) no_bucket (segment_at ss s).buckets b h
        (sym (filter_flat_map (λ (e : Slot V). e.staged) (λ (x : Bucket V). x.entries) (segment_at ss s).buckets) ∙ one)
