-- A list in chunks: an edit in one chunk is that edit of the list.
use Rattle.std.proofs.Common.{◌≡◌, ℕ, zero, suc, ◌+◌, ◌-◌, ◌<◌, ◌≤◌, List, [], ◌∷◌, ◌++◌, length, get_or, set, take, drop, refl, sym, ap, ◌∙◌, append_assoc, append-nil, add-one, arith}
use Rattle.std.specs.List.{insert, remove}
use Rattle.std.proofs.lemmas.List.{set_split, take-set, drop-set-lt, take_more_set, set-append_left, set-append_right, get_or-append-add, get_or_append_left}
use Rattle.std.proofs.lemmas.List.Concat.{flat_map-append}
use Rattle.std.proofs.lemmas.List.Edits.{insert-append_left, insert-append_right, remove-append_left, remove-append_right}
use Rattle.df_colls.specs.Cuts.{flat, chunk_at}

back : (n j : ℕ) → (n + j) - n ≡ j
back n j = omega arith

module _ {A : Type 0} where
  -- ---- the middle of three lists

  insert_mid : (fs b cs : List A) (j : ℕ) (x : A) → j ≤ length b → insert (fs ++ (b ++ cs)) (length fs + j) x ≡ fs ++ (insert b j x ++ cs)
  insert_mid fs b cs j x le =
      insert-append_right fs (b ++ cs) (length fs) (length fs + j) x refl (omega arith)
      ∙ ap (λ n. fs ++ insert (b ++ cs) n x) (back (length fs) j)
      ∙ ap (λ l. fs ++ l) (insert-append_left b cs j x le)

  remove_mid : (fs b cs : List A) (j : ℕ) → j < length b → remove (fs ++ (b ++ cs)) (length fs + j) ≡ fs ++ (remove b j ++ cs)
  remove_mid fs b cs j lt =
      remove-append_right fs (b ++ cs) (length fs) (length fs + j) refl (omega arith)
      ∙ ap (λ n. fs ++ remove (b ++ cs) n) (back (length fs) j)
      ∙ ap (λ l. fs ++ l) (remove-append_left b cs j lt)

  set_mid : (fs b cs : List A) (j : ℕ) (x : A) → j < length b → set (fs ++ (b ++ cs)) (length fs + j) x ≡ fs ++ (set b j x ++ cs)
  set_mid fs b cs j x lt =
      set-append_right fs (b ++ cs) (length fs) (length fs + j) x refl (omega arith)
      ∙ ap (λ n. fs ++ set (b ++ cs) n x) (back (length fs) j)
      ∙ ap (λ l. fs ++ l) (set-append_left b cs j x lt)

  get_mid : (fs b cs : List A) (j : ℕ) (d : A) → j < length b → get_or (fs ++ (b ++ cs)) (length fs + j) d ≡ get_or b j d
  get_mid fs b cs j d lt = get_or-append-add fs (b ++ cs) j d ∙ get_or_append_left b cs d j lt

  -- ---- chunks

  pub flat-append : (ps qs : List (List A)) → flat (ps ++ qs) ≡ flat ps ++ flat qs
  flat-append = flat_map-append (λ c. c)

  -- the list before a chunk, the chunk, and the list behind it
  pub parted : (ps : List (List A)) (i : ℕ) → i < length ps → flat ps ≡ flat (take i ps) ++ (chunk_at ps i ++ flat (drop (suc i) ps))
  parted [] i lt = absurd (omega arith)
  parted (p ∷ ps) zero lt = refl
  parted (p ∷ ps) (suc i) lt =
      ap (λ l. p ++ l) (parted ps i (omega arith)) ∙ sym (append_assoc p (flat (take i ps)) (chunk_at ps i ++ flat (drop (suc i) ps)))

  module _ (ps : List (List A)) (i : ℕ) (lt : i < length ps) where
    flat-set : (c : List A) → flat (set ps i c) ≡ flat (take i ps) ++ (c ++ flat (drop (suc i) ps))
    flat-set c = ap flat (set_split ps i c lt) ∙ flat-append (take i ps) (c ∷ drop (suc i) ps)

    pub inserted : (j : ℕ) (x : A) (c : List A) → j ≤ length (chunk_at ps i) → c ≡ insert (chunk_at ps i) j x → flat (set ps i c) ≡ insert (flat ps) (length (flat (take i ps)) + j) x
    inserted j x c le e =
        flat-set c ∙ ap (λ l. flat (take i ps) ++ (l ++ flat (drop (suc i) ps))) e
        ∙ sym (ap (λ l. insert l (length (flat (take i ps)) + j) x) (parted ps i lt) ∙ insert_mid (flat (take i ps)) (chunk_at ps i) (flat (drop (suc i) ps)) j x le)

    pub replaced : (j : ℕ) (x : A) (c : List A) → j < length (chunk_at ps i) → c ≡ set (chunk_at ps i) j x → flat (set ps i c) ≡ set (flat ps) (length (flat (take i ps)) + j) x
    replaced j x c le e =
        flat-set c ∙ ap (λ l. flat (take i ps) ++ (l ++ flat (drop (suc i) ps))) e
        ∙ sym (ap (λ l. set l (length (flat (take i ps)) + j) x) (parted ps i lt) ∙ set_mid (flat (take i ps)) (chunk_at ps i) (flat (drop (suc i) ps)) j x le)

    pub removed : (j : ℕ) (c : List A) → j < length (chunk_at ps i) → c ≡ remove (chunk_at ps i) j → flat (set ps i c) ≡ remove (flat ps) (length (flat (take i ps)) + j)
    removed j c le e =
        flat-set c ∙ ap (λ l. flat (take i ps) ++ (l ++ flat (drop (suc i) ps))) e
        ∙ sym (ap (λ l. remove l (length (flat (take i ps)) + j)) (parted ps i lt) ∙ remove_mid (flat (take i ps)) (chunk_at ps i) (flat (drop (suc i) ps)) j le)

    pub read : (j : ℕ) (d : A) → j < length (chunk_at ps i) → get_or (flat ps) (length (flat (take i ps)) + j) d ≡ get_or (chunk_at ps i) j d
    read j d l = ap (λ l. get_or l (length (flat (take i ps)) + j) d) (parted ps i lt) ∙ get_mid (flat (take i ps)) (chunk_at ps i) (flat (drop (suc i) ps)) j d l

    -- a chunk that becomes two
    pub split : (low high c : List A) → low ++ high ≡ c → flat (insert (set ps i low) (i + 1) high) ≡ flat (set ps i c)
    split low high c e =
        flat-append (take (i + 1) (set ps i low)) (high ∷ drop (i + 1) (set ps i low))
        ∙ ap (λ l. flat l ++ (high ++ flat (drop (i + 1) (set ps i low)))) (take_more_set ps i low lt)
        ∙ ap (λ l. flat (take i ps ++ low ∷ []) ++ (high ++ flat l)) (drop-set-lt (i + 1) ps i low (omega arith) ∙ ap (λ n. drop n ps) (add-one i))
        ∙ ap (λ l. l ++ (high ++ flat (drop (suc i) ps))) (flat-append (take i ps) (low ∷ []) ∙ ap (λ l. flat (take i ps) ++ l) (append-nil low))
        ∙ append_assoc (flat (take i ps)) low (high ++ flat (drop (suc i) ps))
        ∙ ap (λ l. flat (take i ps) ++ l) (sym (append_assoc low high (flat (drop (suc i) ps))))
        ∙ ap (λ l. flat (take i ps) ++ (l ++ flat (drop (suc i) ps))) e
        ∙ sym (flat-set c)

    -- an empty chunk that is taken away
    pub without : flat (remove (set ps i []) i) ≡ flat (set ps i [])
    without =
        flat-append (take i (set ps i [])) (drop (suc i) (set ps i []))
        ∙ ap (λ l. flat l ++ flat (drop (suc i) (set ps i []))) (take-set ps i [])
        ∙ ap (λ l. flat (take i ps) ++ flat l) (drop-set-lt (suc i) ps i [] (omega arith))
        ∙ sym (flat-set [])
