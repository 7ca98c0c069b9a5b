-- What a split leaves under a key, and that both halves are sound.
use Rattle.std.proofs.Common.{◌≡◌, ℕ, zero, suc, ◌≤◌, List, [], ◌∷◌, ◌++◌, map, length, replicate, Bool, true, false, cond, refl, ap, sym, ◌∙◌, arith}
use Rattle.std.specs.Prelude.{not}
use Rattle.std.proofs.lemmas.List.Elements.{filter-append}
use Rattle.std.proofs.lemmas.List.{length-map}
use Rattle.df_model.specs.Values.{Bytes}
use Rattle.df_segment.specs.Entries.{Slot, has_key, found, goes}
use Rattle.df_segment.specs.Buckets.{Bucket, bucket_at, no_bucket, entries_in, stays_in, goes_in, stay_bucket, go_bucket, IsSound}
use Rattle.df_segment.proofs.ListLaws.{empty_of}
use Rattle.df_segment.proofs.SoundLaws.{same_key}

module _ {V : Type 0} where
  goes_with : (bit : ℕ) (key : Bytes) (e : Slot V) → has_key key e ≡ true → goes bit e.key ≡ goes bit key
  goes_with bit key e h = ap (goes bit) (same_key e.key key h)

  stays_step : (bit : ℕ) (key : Bytes) (e : Slot V) (es : List (Slot V)) (t s u : Bool) → has_key key e ≡ t → goes bit e.key ≡ s → goes bit key ≡ u
      → found key (stays_in bit es) ≡ cond u [] (found key es) → found key (stays_in bit (e ∷ es)) ≡ cond u [] (found key (e ∷ es))
  stays_step bit key e es true true true t s u h = rw s h
  stays_step bit key e es true false false t s u h = rw (s, t) (ap (λ xs. e ∷ xs) h)
  stays_step bit key e es true true false t s u h = absurd (let f = goes_with bit key e t in cc)
  stays_step bit key e es true false true t s u h = absurd (let f = goes_with bit key e t in cc)
  stays_step bit key e es false true u t s w h = rw s (rw t h)
  stays_step bit key e es false false u t s w h = rw (s, t) h

  goes_step : (bit : ℕ) (key : Bytes) (e : Slot V) (es : List (Slot V)) (t s u : Bool) → has_key key e ≡ t → goes bit e.key ≡ s → goes bit key ≡ u
      → found key (goes_in bit es) ≡ cond u (found key es) [] → found key (goes_in bit (e ∷ es)) ≡ cond u (found key (e ∷ es)) []
  goes_step bit key e es true true true t s u h = rw (s, t) (ap (λ xs. e ∷ xs) h)
  goes_step bit key e es true false false t s u h = rw s h
  goes_step bit key e es true true false t s u h = absurd (let f = goes_with bit key e t in cc)
  goes_step bit key e es true false true t s u h = absurd (let f = goes_with bit key e t in cc)
  goes_step bit key e es false true u t s w h = rw (s, t) h
  goes_step bit key e es false false u t s w h = rw s (rw t h)

  nothing : (u : Bool) → (none : List (Slot V)) → none ≡ cond u none none
  nothing true none = refl
  nothing false none = refl

  -- a key that goes leaves nothing, and one that stays has what it had
  pub stays_found : (bit : ℕ) (key : Bytes) (es : List (Slot V)) → found key (stays_in bit es) ≡ cond (goes bit key) [] (found key es)
  stays_found bit key [] = nothing (goes bit key) []
  stays_found bit key (e ∷ es) = stays_step bit key e es (has_key key e) (goes bit e.key) (goes bit key) refl refl refl (stays_found bit key es)

  pub goes_found : (bit : ℕ) (key : Bytes) (es : List (Slot V)) → found key (goes_in bit es) ≡ cond (goes bit key) (found key es) []
  goes_found bit key [] = nothing (goes bit key) []
  goes_found bit key (e ∷ es) = goes_step bit key e es (has_key key e) (goes bit e.key) (goes bit key) refl refl refl (goes_found bit key es)

  pub stay_entries : (bit : ℕ) (bs : List (Bucket V)) → entries_in (map (stay_bucket bit) bs) ≡ stays_in bit (entries_in bs)
  stay_entries bit [] = refl
  stay_entries bit (b ∷ bs) = ap (λ xs. stays_in bit b.entries ++ xs) (stay_entries bit bs) ∙ sym (filter-append (λ (e : Slot V). not (goes bit e.key)) b.entries (entries_in bs))

  pub go_entries : (bit : ℕ) (bs : List (Bucket V)) → entries_in (map (go_bucket bit) bs) ≡ goes_in bit (entries_in bs)
  go_entries bit [] = refl
  go_entries bit (b ∷ bs) = ap (λ xs. goes_in bit b.entries ++ xs) (go_entries bit bs) ∙ sym (filter-append (λ (e : Slot V). goes bit e.key) b.entries (entries_in bs))

  pub stay_half_found : (bit : ℕ) (key : Bytes) (bs : List (Bucket V)) → found key (entries_in (map (stay_bucket bit) bs)) ≡ cond (goes bit key) [] (found key (entries_in bs))
  stay_half_found bit key bs = ap (found key) (stay_entries bit bs) ∙ stays_found bit key (entries_in bs)

  pub go_half_found : (bit : ℕ) (key : Bytes) (bs : List (Bucket V)) → found key (entries_in (map (go_bucket bit) bs)) ≡ cond (goes bit key) (found key (entries_in bs)) []
  go_half_found bit key bs = ap (found key) (go_entries bit bs) ∙ goes_found bit key (entries_in bs)

  bucket_of_map : (f : Bucket V → Bucket V) (bs : List (Bucket V)) (b : ℕ) → f no_bucket ≡ no_bucket → bucket_at (map f bs) b ≡ f (bucket_at bs b)
  bucket_of_map f [] b e = sym e
  bucket_of_map f (x ∷ bs) zero e = refl
  bucket_of_map f (x ∷ bs) (suc b) e = bucket_of_map f bs b e

  less_of_cond : (u : Bool) (xs : List (Slot V)) → length (cond u [] xs) ≤ length xs
  less_of_cond true xs = omega arith
  less_of_cond false xs = omega arith

  less_of_cond2 : (u : Bool) (xs : List (Slot V)) → length (cond u xs []) ≤ length xs
  less_of_cond2 true xs = omega arith
  less_of_cond2 false xs = omega arith

  none_of_less : (xs ys : List (Slot V)) → length ys ≤ length xs → xs ≡ [] → ys ≡ []
  none_of_less xs ys h e = empty_of ys (let f = ap length e in omega arith)

  -- a segment whose buckets have less is sound
  mapped_sound : (f : Bucket V → Bucket V) (spilled : List Bool) (bs : List (Bucket V)) → IsSound spilled bs → f no_bucket ≡ no_bucket
      → ((key : Bytes) (b : Bucket V) → length (found key (f b).entries) ≤ length (found key b.entries))
      → ((key : Bytes) → length (found key (entries_in (map f bs))) ≤ length (found key (entries_in bs)))
      → IsSound spilled (map f bs)
  mapped_sound f spilled bs sound e less all =
      let l = length-map bs f in
      record {
        enough = (let h = sound.enough in omega arith);
        near = λ b key w h n. ap (λ (k : Bucket V). found key k.entries) (bucket_of_map f bs b e)
            ∙ none_of_less (found key (bucket_at bs b).entries) (found key (f (bucket_at bs b)).entries) (less key (bucket_at bs b)) (sound.near b key w h n);
        spills = λ b key far w no. ap (λ (k : Bucket V). found key k.entries) (bucket_of_map f bs b e)
            ∙ none_of_less (found key (bucket_at bs b).entries) (found key (f (bucket_at bs b)).entries) (less key (bucket_at bs b)) (sound.spills b key far (omega arith) no);
        once = λ key. (let h = sound.once key in let g = all key in omega arith);
      }

  pub stay_sound : (bit : ℕ) (spilled : List Bool) (bs : List (Bucket V)) → IsSound spilled bs → IsSound spilled (map (stay_bucket bit) bs)
  stay_sound bit spilled bs sound = mapped_sound (stay_bucket bit) spilled bs sound refl
      (λ key b. rw (stays_found bit key b.entries) (less_of_cond (goes bit key) (found key b.entries)))
      (λ key. rw (stay_half_found bit key bs) (less_of_cond (goes bit key) (found key (entries_in bs))))

  pub go_sound : (bit : ℕ) (spilled : List Bool) (bs : List (Bucket V)) → IsSound spilled bs → IsSound spilled (map (go_bucket bit) bs)
  go_sound bit spilled bs sound = mapped_sound (go_bucket bit) spilled bs sound refl
      (λ key b. rw (goes_found bit key b.entries) (less_of_cond2 (goes bit key) (found key b.entries)))
      (λ key. rw (go_half_found bit key bs) (less_of_cond2 (goes bit key) (found key (entries_in bs))))

  empty_at : (n version b : ℕ) → (bucket_at {V = V} (replicate n (record { version = version; entries = [] })) b).entries ≡ []
  empty_at zero version b = refl
  empty_at (suc n) version zero = refl
  empty_at (suc n) version (suc b) = empty_at n version b

  pub empty_in : (n version : ℕ) → entries_in {V = V} (replicate n (record { version = version; entries = [] })) ≡ []
  empty_in zero version = refl
  empty_in (suc n) version = empty_in n version

  pub empty_sound : (spilled : List Bool) (version : ℕ) (bs : List (Bucket V)) → bs ≡ replicate 60 (record { version = version; entries = [] }) → IsSound spilled bs
  empty_sound spilled version bs is = record {
    enough = rw is (omega arith);
    near = λ b key w h n. ap (λ (l : List (Bucket V)). found key (bucket_at l b).entries) is ∙ ap (found key) (empty_at 60 version b);
    spills = λ b key far w no. ap (λ (l : List (Bucket V)). found key (bucket_at l b).entries) is ∙ ap (found key) (empty_at 60 version b);
    once = λ key. (let e = ap (λ (l : List (Bucket V)). length (found key (entries_in l))) is ∙ ap (λ (l : List (Slot V)). length (found key l)) (empty_in 60 version) in omega arith);
  }

pub empty_version : (V : Type 0) (n version b : ℕ) → (bucket_at {V = V} (replicate n (record { version = version; entries = [] })) b).version ≤ version
empty_version V zero version b = omega arith
empty_version V (suc n) version zero = omega arith
empty_version V (suc n) version (suc b) = empty_version V n version b
