-- The parting of a bucket at a split, entry by entry, and of a row of buckets, bucket by bucket.
use Rattle.std.proofs.Common.{◌≡◌, ℕ, suc, ◌+◌, ◌<◌, ◌≤◌, List, [], ◌∷◌, ◌++◌, map, length, get_or, set, take, cond, Bool, true, false, not, inl, inr, refl, ap, sym, subst, ◌∙◌, arith, append_assoc, length-append, append-nil}
use Rattle.std.specs.Prelude.{vec_capacity}
use Rattle.std.specs.List.{filter, remove}
use Rattle.std.proofs.lemmas.List.{length-map, map-append}
use Rattle.std.proofs.lemmas.List.Elements.{filter-append}
use Rattle.std.proofs.Math.Seq.{get_or-append_seam, set-append_seam}
use Rattle.df_segment.specs.declared.bucket.Parting.{Parting}
use Rattle.df_segment.specs.declared.entry.Entry.{Entry}
use Rattle.df_segment.specs.Entries.{Slot, goes, slots, entry_of}
use Rattle.df_segment.specs.Buckets.{Bucket, bucket_at, no_bucket, stays_in, goes_in, stay_bucket, go_bucket, IsParting, IsPartings}
use Rattle.std.proofs.lemmas.Bool.{cases_lt}
use Rattle.std.proofs.lemmas.List.{get_or-set_other, get_or-set_same, get_or_append_left}
use Rattle.std.proofs.lemmas.List.Filters.{length-filter_more}
use Rattle.df_segment.proofs.ListLaws.{empty_of}
use Rattle.df_segment.proofs.BucketLaws.{item_at}
use Rattle.df_segment.proofs.SlotLaws.{slots_length, slot_at, slots_going}

pub remove_seam : {X : Type 0} (xs : List X) (y : X) (ys : List X) → remove (xs ++ y ∷ ys) (length xs) ≡ xs ++ ys
remove_seam [] y ys = refl
remove_seam (x ∷ xs) y ys = ap (λ zs. x ∷ zs) (remove_seam xs y ys)

filter_more : {X : Type 0} (p : X → Bool) (x : X) (xs : List X) (t : Bool) → p x ≡ t → length (filter p xs) ≤ length xs → length (filter p (x ∷ xs)) ≤ length (x ∷ xs)
filter_more p x xs true is h = rw is (omega arith)
filter_more p x xs false is h = rw is (omega arith)

pub filter_le : {X : Type 0} (p : X → Bool) (xs : List X) → length (filter p xs) ≤ length xs
filter_le p [] = omega arith
filter_le p (x ∷ xs) = filter_more p x xs (p x) refl (filter_le p xs)

-- the marks of what goes, and their count, one entry further
module _ {V : Type 0} (bit : ℕ) (es : List (Entry V)) where
  pub marks_step : (going : List Bool) (i : ℕ) (on : Bool) → i < length going → ((d : Entry V) → on ≡ goes bit (get_or es i d).key)
      → ((k : ℕ) (d : Entry V) → k < i → get_or going k false ≡ goes bit (get_or es k d).key)
      → (k : ℕ) (d : Entry V) → k < i + 1 → get_or (set going i on) k false ≡ goes bit (get_or es k d).key
  marks_step going i on w own before k d h =
      elim (cases_lt k i) as (λ _. get_or (set going i on) k false ≡ goes bit (get_or es k d).key) [
        | inl below ↦ get_or-set_other going i k on false (λ q. absurd (omega arith)) ∙ before k d below
        | inr above ↦ subst (λ (j : ℕ). get_or (set going i on) j false ≡ goes bit (get_or es j d).key) (let same : i ≡ k = omega arith in same)
            (get_or-set_same going i on false w ∙ own d)
      ]

  pub count_step : (i count count' : ℕ) (on : Bool) → i < length es → ((d : Entry V) → on ≡ goes bit (get_or es i d).key)
      → count ≡ length (filter (λ (e : Entry V). goes bit e.key) (take i es))
      → (on ≡ true → count' ≡ count + 1) → (on ≡ false → count' ≡ count)
      → count' ≡ length (filter (λ (e : Entry V). goes bit e.key) (take (i + 1) es))
  count_step i count count' on w own is more same =
      let item = item_at es i w in
      let one = length-filter_more (λ (e : Entry V). goes bit e.key) es i item.0 w in
      by_case on refl (ap (λ b. length (filter (λ (e : Entry V). goes bit e.key) (take i es)) + cond b 1 0) (own item.0)) one
    where
      by_case : (t : Bool) → on ≡ t
          → length (filter (λ (e : Entry V). goes bit e.key) (take i es)) + cond on 1 0 ≡ length (filter (λ (e : Entry V). goes bit e.key) (take i es)) + cond (goes bit (get_or es i (item_at es i w).0).key) 1 0
          → length (filter (λ (e : Entry V). goes bit e.key) (take (i + 1) es)) ≡ length (filter (λ (e : Entry V). goes bit e.key) (take i es)) + cond (goes bit (get_or es i (item_at es i w).0).key) 1 0
          → count' ≡ length (filter (λ (e : Entry V). goes bit e.key) (take (i + 1) es))
      by_case true t p q = let c = more t in let z : cond {A = ℕ} on 1 0 ≡ 1 = rw t refl in omega arith
      by_case false t p q = let c = same t in let z : cond {A = ℕ} on 1 0 ≡ 0 = rw t refl in omega arith

  -- from the entries that the code looked at to those that contracts see
  pub parting_is : (f : ℕ → Bool) (looked : List (Entry V)) (going : List Bool) (count room : ℕ) → looked ≡ es
      → ((k : ℕ) (d : Entry V) → k < length looked → get_or going k false ≡ goes bit (get_or looked k d).key)
      → count ≡ length (filter (λ (e : Entry V). goes bit e.key) looked) → count ≤ room
      → IsParting bit (slots f es) going room
  parting_is f looked going count room same marks is le = record {
    marks = λ i d w.
        let n = slots_length f es in
        let inside : i < length es = omega arith in
        let m = subst (λ (xs : List (Entry V)). (k : ℕ) (e : Entry V) → k < length xs → get_or going k false ≡ goes bit (get_or xs k e).key) same marks in
        m i (entry_of d) inside ∙ ap (λ (x : Slot V). goes bit x.key) (sym (slot_at f es i d (entry_of d) inside));
    enough = (let a = slots_going f bit es in let b = ap (λ (xs : List (Entry V)). length (filter (λ (e : Entry V). goes bit e.key) xs)) same in omega arith);
  }

-- what has been dealt of a bucket's entries, and what is to come
pub record Dealt {V : Type 0} (bit : ℕ) (old now half : List (Slot V)) (k at : ℕ) : Type 0 where
  pub done : List (Slot V)
  pub left : List (Slot V)
  pub old_is : old ≡ done ++ left
  pub now_is : now ≡ stays_in bit done ++ left
  pub half_is : half ≡ goes_in bit done
  pub k_is : k ≡ length done
  pub at_is : at ≡ length (stays_in bit done)

module _ {V : Type 0} where
  pub dealt_none : (bit : ℕ) (old half : List (Slot V)) → half ≡ [] → Dealt bit old old half 0 0
  dealt_none bit old half is = record { done = []; left = old; old_is = refl; now_is = refl; half_is = is; k_is = refl; at_is = refl }

  -- the next entry
  pub record Next (bit : ℕ) (old now half : List (Slot V)) (k at : ℕ) : Type 0 where
    pub e : Slot V
    pub rest : List (Slot V)
    pub done : List (Slot V)
    pub old_is : old ≡ done ++ e ∷ rest
    pub now_is : now ≡ stays_in bit done ++ e ∷ rest
    pub half_is : half ≡ goes_in bit done
    pub k_is : k ≡ length done
    pub at_is : at ≡ length (stays_in bit done)

  next_by : (bit : ℕ) (old now half : List (Slot V)) (k at : ℕ) (done left : List (Slot V)) → old ≡ done ++ left → now ≡ stays_in bit done ++ left
      → half ≡ goes_in bit done → k ≡ length done → at ≡ length (stays_in bit done) → k < length old → Next bit old now half k at
  next_by bit old now half k at done [] old_is now_is half_is k_is at_is w =
      absurd (let a = ap length (old_is ∙ append-nil done) in omega arith)
  next_by bit old now half k at done (e ∷ rest) old_is now_is half_is k_is at_is w =
      record { e = e; rest = rest; done = done; old_is = old_is; now_is = now_is; half_is = half_is; k_is = k_is; at_is = at_is }

  pub dealt_next : (bit : ℕ) (old now half : List (Slot V)) (k at : ℕ) → Dealt bit old now half k at → k < length old → Next bit old now half k at
  dealt_next bit old now half k at d w = next_by bit old now half k at d.done d.left d.old_is d.now_is d.half_is d.k_is d.at_is w

module _ {V : Type 0} (bit : ℕ) (old now half : List (Slot V)) (k at : ℕ) (n : Next bit old now half k at) where
  pub next_within : at < length now
  next_within =
      let a = ap length n.now_is in
      let b = length-append (stays_in bit n.done) (n.e ∷ n.rest) in
      let c = n.at_is in omega arith

  pub next_here : (d : Slot V) → get_or now at d ≡ n.e
  next_here d =
      ap (λ (zs : List (Slot V)). get_or zs at d) n.now_is
      ∙ ap (λ j. get_or (stays_in bit n.done ++ n.e ∷ n.rest) j d) n.at_is
      ∙ get_or-append_seam (stays_in bit n.done) n.e n.rest d

  pub next_there : (d : Slot V) → get_or old k d ≡ n.e
  next_there d =
      ap (λ (zs : List (Slot V)). get_or zs k d) n.old_is
      ∙ ap (λ j. get_or (n.done ++ n.e ∷ n.rest) j d) n.k_is
      ∙ get_or-append_seam n.done n.e n.rest d

  pub next_small : at ≤ k
  next_small =
      let a = filter_le (λ (e : Slot V). not (goes bit e.key)) n.done in
      let b = n.at_is in
      let c = n.k_is in omega arith

  one_goes : goes bit n.e.key ≡ true → goes_in bit (n.e ∷ []) ≡ n.e ∷ []
  one_goes g = rw g refl

  -- of those that go, one more is to come
  pub next_fits : goes bit n.e.key ≡ true → suc (length half) ≤ length (goes_in bit old)
  next_fits g =
      let a = ap (λ (zs : List (Slot V)). length (goes_in bit zs)) n.old_is in
      let b = ap length (filter-append (λ (e : Slot V). goes bit e.key) n.done (n.e ∷ n.rest)) in
      let c = length-append (goes_in bit n.done) (goes_in bit (n.e ∷ n.rest)) in
      let d : length (goes_in bit (n.e ∷ n.rest)) ≡ suc (length (goes_in bit n.rest)) = rw g refl in
      let f = ap length n.half_is in
      omega arith

  pub next_few : length old ≤ 14 → goes bit n.e.key ≡ true → length half < 14
  next_few few g = let a = next_fits g in let b = filter_le (λ (e : Slot V). goes bit e.key) old in omega arith

  pub next_goes : (now' half' : List (Slot V)) → goes bit n.e.key ≡ true → now' ≡ remove now at → half' ≡ half ++ n.e ∷ []
      → Dealt bit old now' half' (k + 1) at
  next_goes now' half' g now_to half_to = record {
    done = n.done ++ n.e ∷ [];
    left = n.rest;
    old_is = n.old_is ∙ sym (append_assoc n.done (n.e ∷ []) n.rest);
    now_is =
        now_to ∙ ap (λ (zs : List (Slot V)). remove zs at) n.now_is
        ∙ ap (λ j. remove (stays_in bit n.done ++ n.e ∷ n.rest) j) n.at_is
        ∙ remove_seam (stays_in bit n.done) n.e n.rest
        ∙ ap (λ zs. zs ++ n.rest) (sym stays);
    half_is = half_to ∙ ap (λ zs. zs ++ n.e ∷ []) n.half_is
        ∙ sym (filter-append (λ (e : Slot V). goes bit e.key) n.done (n.e ∷ []) ∙ ap (λ zs. goes_in bit n.done ++ zs) (one_goes g));
    k_is = (let a = length-append n.done (n.e ∷ []) in let b = n.k_is in omega arith);
    at_is = n.at_is ∙ ap length (sym stays);
  }
    where
      none : stays_in bit (n.e ∷ []) ≡ []
      none = rw g refl

      stays : stays_in bit (n.done ++ n.e ∷ []) ≡ stays_in bit n.done
      stays =
          filter-append (λ (e : Slot V). not (goes bit e.key)) n.done (n.e ∷ [])
          ∙ ap (λ zs. stays_in bit n.done ++ zs) none ∙ append-nil (stays_in bit n.done)

  pub next_stays : goes bit n.e.key ≡ false → Dealt bit old now half (k + 1) (at + 1)
  next_stays g = record {
    done = n.done ++ n.e ∷ [];
    left = n.rest;
    old_is = n.old_is ∙ sym (append_assoc n.done (n.e ∷ []) n.rest);
    now_is = n.now_is ∙ sym (append_assoc (stays_in bit n.done) (n.e ∷ []) n.rest) ∙ ap (λ zs. zs ++ n.rest) (sym stays);
    half_is = n.half_is ∙ sym goes_none;
    k_is = (let a = length-append n.done (n.e ∷ []) in let b = n.k_is in omega arith);
    at_is = (let a = ap length stays in let b = length-append (stays_in bit n.done) (n.e ∷ []) in let c = n.at_is in omega arith);
  }
    where
      one : stays_in bit (n.e ∷ []) ≡ n.e ∷ []
      one = rw g refl

      stays : stays_in bit (n.done ++ n.e ∷ []) ≡ stays_in bit n.done ++ n.e ∷ []
      stays = filter-append (λ (e : Slot V). not (goes bit e.key)) n.done (n.e ∷ []) ∙ ap (λ zs. stays_in bit n.done ++ zs) one

      none : goes_in bit (n.e ∷ []) ≡ []
      none = rw g refl

      goes_none : goes_in bit (n.done ++ n.e ∷ []) ≡ goes_in bit n.done
      goes_none =
          filter-append (λ (e : Slot V). goes bit e.key) n.done (n.e ∷ [])
          ∙ ap (λ zs. goes_in bit n.done ++ zs) none ∙ append-nil (goes_in bit n.done)

module _ {V : Type 0} where
  pub dealt_same : (bit : ℕ) (old now now' half half' : List (Slot V)) (k at at' : ℕ) → Dealt bit old now half k at
      → now' ≡ now → half' ≡ half → at' ≡ at → Dealt bit old now' half' k at'
  dealt_same bit old now now' half half' k at at' d now_is half_is at_is = record {
    done = d.done;
    left = d.left;
    old_is = d.old_is;
    now_is = now_is ∙ d.now_is;
    half_is = half_is ∙ d.half_is;
    k_is = d.k_is;
    at_is = at_is ∙ d.at_is;
  }

  -- after the last entry
  pub dealt_all : (bit : ℕ) (old now half : List (Slot V)) (k at : ℕ) → Dealt bit old now half k at → length old ≤ k
      → (now ≡ stays_in bit old) × (half ≡ goes_in bit old)
  dealt_all bit old now half k at d end =
      let l = ap length d.old_is in
      let m = length-append d.done d.left in
      let none : d.left ≡ [] = empty_of d.left (let a = d.k_is in omega arith) in
      let whole : old ≡ d.done = d.old_is ∙ ap (λ zs. d.done ++ zs) none ∙ append-nil d.done in (
        d.now_is ∙ ap (λ zs. stays_in bit d.done ++ zs) none ∙ append-nil (stays_in bit d.done) ∙ ap (stays_in bit) (sym whole),
        d.half_is ∙ ap (goes_in bit) (sym whole),
      )

-- what holds of each element, and of one more
pub each_push : {X : Type 0} (P : ℕ → X → Type 0) (xs : List X) (x : X) (n : ℕ) → length xs ≡ n → ((b : ℕ) (d : X) → b < n → P b (get_or xs b d)) → P n x
    → (b : ℕ) (d : X) → b < n + 1 → P b (get_or (xs ++ x ∷ []) b d)
each_push {X} P xs x n long each own b d w =
    elim (cases_lt b n) as (λ _. P b (get_or (xs ++ x ∷ []) b d)) [
      | inl below ↦ subst (λ (y : X). P b y) (sym (get_or_append_left xs (x ∷ []) d b (omega arith))) (each b d below)
      | inr above ↦ subst (λ (j : ℕ). P j (get_or (xs ++ x ∷ []) j d)) (let same : n ≡ b = omega arith in same)
          (subst (λ (y : X). P n y) (sym (ap (λ j. get_or (xs ++ x ∷ []) j d) (sym long) ∙ get_or-append_seam xs x [] d)) own)
    ]

-- what has been parted of a row of buckets
pub record Parted {V : Type 0} (bit : ℕ) (old now halves : List (Bucket V)) (rest : List (Parting V)) : Type 0 where
  pub done : List (Bucket V)
  pub left : List (Bucket V)
  pub old_is : old ≡ done ++ left
  pub now_is : now ≡ map (stay_bucket bit) done ++ left
  pub halves_is : halves ≡ map (go_bucket bit) done
  pub rest_is : IsPartings bit left rest

module _ {V : Type 0} where
  pub parted_none : (bit : ℕ) (old halves : List (Bucket V)) (rest : List (Parting V)) → IsPartings bit old rest → halves ≡ [] → Parted bit old old halves rest
  parted_none bit old halves rest is none = record { done = []; left = old; old_is = refl; now_is = refl; halves_is = none; rest_is = is }

  pub record NextBucket (bit : ℕ) (old now halves : List (Bucket V)) (p : Parting V) (behind : List (Parting V)) : Type 0 where
    pub b : Bucket V
    pub rest : List (Bucket V)
    pub done : List (Bucket V)
    pub old_is : old ≡ done ++ b ∷ rest
    pub now_is : now ≡ map (stay_bucket bit) done ++ b ∷ rest
    pub halves_is : halves ≡ map (go_bucket bit) done
    pub own : IsPartings bit (b ∷ rest) (p ∷ behind)

  next_bucket_by : (bit : ℕ) (old now halves : List (Bucket V)) (p : Parting V) (behind : List (Parting V)) (done left : List (Bucket V))
      → old ≡ done ++ left → now ≡ map (stay_bucket bit) done ++ left → halves ≡ map (go_bucket bit) done → IsPartings bit left (p ∷ behind)
      → NextBucket bit old now halves p behind
  next_bucket_by bit old now halves p behind done [] old_is now_is halves_is own = absurd (let m = own.many in omega arith)
  next_bucket_by bit old now halves p behind done (b ∷ rest) old_is now_is halves_is own =
      record { b = b; rest = rest; done = done; old_is = old_is; now_is = now_is; halves_is = halves_is; own = own }

  pub parted_next : (bit : ℕ) (old now halves : List (Bucket V)) (rest : List (Parting V)) (p : Parting V) (behind : List (Parting V))
      → Parted bit old now halves rest → rest ≡ p ∷ behind → NextBucket bit old now halves p behind
  parted_next bit old now halves rest p behind d comes =
      next_bucket_by bit old now halves p behind d.done d.left d.old_is d.now_is d.halves_is (subst (λ (ps : List (Parting V)). IsPartings bit d.left ps) comes d.rest_is)

  -- after the last bucket
  pub parted_all : (bit : ℕ) (old now halves : List (Bucket V)) (rest : List (Parting V)) → Parted bit old now halves rest → length rest ≤ 0
      → (now ≡ map (stay_bucket bit) old) × (halves ≡ map (go_bucket bit) old)
  parted_all bit old now halves rest d end =
      let none : d.left ≡ [] = empty_of d.left (let m = d.rest_is.many in omega arith) in
      let whole : old ≡ d.done = d.old_is ∙ ap (λ zs. d.done ++ zs) none ∙ append-nil d.done in (
        d.now_is ∙ ap (λ zs. map (stay_bucket bit) d.done ++ zs) none ∙ append-nil (map (stay_bucket bit) d.done) ∙ ap (map (stay_bucket bit)) (sym whole),
        d.halves_is ∙ ap (map (go_bucket bit)) (sym whole),
      )

module _ {V : Type 0} (bit : ℕ) (old now halves : List (Bucket V)) (p : Parting V) (behind : List (Parting V)) (n : NextBucket bit old now halves p behind) where
  place_is : length halves ≡ length (map (stay_bucket bit) n.done)
  place_is = ap length n.halves_is ∙ length-map n.done (go_bucket bit) ∙ sym (length-map n.done (stay_bucket bit))

  pub bucket_within : length halves < length now
  bucket_within =
      let a = place_is in
      let b = ap length n.now_is in
      let c = length-append (map (stay_bucket bit) n.done) (n.b ∷ n.rest) in omega arith

  -- how many have come and are to come
  pub bucket_count : length halves + suc (length behind) ≡ length old
  bucket_count =
      let a = ap length n.halves_is in
      let b = length-map n.done (go_bucket bit) in
      let c = ap length n.old_is in
      let d = length-append n.done (n.b ∷ n.rest) in
      let e = n.own.many in omega arith

  pub bucket_here : bucket_at now (length halves) ≡ n.b
  bucket_here =
      ap (λ (zs : List (Bucket V)). bucket_at zs (length halves)) n.now_is
      ∙ ap (λ j. bucket_at (map (stay_bucket bit) n.done ++ n.b ∷ n.rest) j) place_is
      ∙ get_or-append_seam (map (stay_bucket bit) n.done) n.b n.rest no_bucket

  pub bucket_bit : p.bit ≡ bit
  bucket_bit = n.own.bits 0 p (omega arith)

  pub bucket_empty : p.room.items ≡ []
  bucket_empty = n.own.empty 0 p (omega arith)

  pub bucket_fits : IsParting p.bit (bucket_at now (length halves)).entries p.going (vec_capacity p.room)
  bucket_fits =
      subst (λ (j : ℕ). IsParting j (bucket_at now (length halves)).entries p.going (vec_capacity p.room)) (sym bucket_bit)
      (subst (λ (b : Bucket V). IsParting bit b.entries p.going (vec_capacity p.room)) (sym bucket_here) (n.own.fits 0 p (omega arith)))

  behind_is : IsPartings bit n.rest behind
  behind_is = record {
    many = (let m = n.own.many in omega arith);
    bits = λ b q w. n.own.bits (suc b) q (omega arith);
    fits = λ b q w. n.own.fits (suc b) q (omega arith);
    empty = λ b q w. n.own.empty (suc b) q (omega arith);
  }

  pub bucket_parted : (now' : List (Bucket V)) (half : Bucket V)
      → now' ≡ set now (length halves) (stay_bucket p.bit (bucket_at now (length halves))) → half ≡ go_bucket p.bit (bucket_at now (length halves))
      → Parted bit old now' (halves ++ half ∷ []) behind
  bucket_parted now' half now_to half_to =
      let stays : stay_bucket p.bit (bucket_at now (length halves)) ≡ stay_bucket bit n.b =
      ap (λ j. stay_bucket j (bucket_at now (length halves))) bucket_bit ∙ ap (stay_bucket bit) bucket_here in
      let goes_to : half ≡ go_bucket bit n.b = half_to ∙ ap (λ j. go_bucket j (bucket_at now (length halves))) bucket_bit ∙ ap (go_bucket bit) bucket_here in
      record {
        done = n.done ++ n.b ∷ [];
        left = n.rest;
        old_is = n.old_is ∙ sym (append_assoc n.done (n.b ∷ []) n.rest);
        now_is =
            now_to ∙ ap (λ (b : Bucket V). set now (length halves) b) stays
            ∙ ap (λ (zs : List (Bucket V)). set zs (length halves) (stay_bucket bit n.b)) n.now_is
            ∙ ap (λ j. set (map (stay_bucket bit) n.done ++ n.b ∷ n.rest) j (stay_bucket bit n.b)) place_is
            ∙ set-append_seam (map (stay_bucket bit) n.done) n.b n.rest (stay_bucket bit n.b)
            ∙ sym (ap (λ zs. zs ++ n.rest) (map-append (stay_bucket bit) n.done (n.b ∷ [])) ∙ append_assoc (map (stay_bucket bit) n.done) (stay_bucket bit n.b ∷ []) n.rest);
        halves_is = ap (λ zs. zs ++ half ∷ []) n.halves_is ∙ ap (λ (b : Bucket V). map (go_bucket bit) n.done ++ b ∷ []) goes_to
            ∙ sym (map-append (go_bucket bit) n.done (n.b ∷ []));
        rest_is = behind_is;
      }
