-- Keys in chunks: in which chunk a key may be, and what its place there tells of the whole list.
use Rattle.std.proofs.Common.{◌≡◌, ℕ, zero, suc, ◌+◌, ◌<◌, Bool, true, false, ◌&&◌, List, [], ◌∷◌, ◌++◌, length, take, drop, inl, inr, ◌⊎◌, refl, sym, ap, subst, ◌∙◌, zero-add, add-one, arith}
use Rattle.std.specs.Prelude.{T}
use Rattle.std.specs.Cmp.Lexicographic.{nat_list_cmp_total}
use Rattle.std.specs.declared.cmp.Ordering.TheVariants.{Less, Equal, Greater}
use Rattle.std.specs.FinMap.{is_sorted}
use Rattle.std.specs.FinMap.Entries.{below_all}
use Rattle.df_model.specs.Values.{Bytes}
use Rattle.df_colls.specs.declared.chunks.Place.{Place}
use Rattle.df_colls.specs.Roomy.{order}
use Rattle.df_colls.specs.Cuts.{flat, chunk_at, index_of}
use Rattle.df_colls.specs.Places.{AllAbove, AllBelow, IsAt, GoesTo, Absent, IsFound, IsMissing, IsHome, Starts}
use Rattle.df_colls.proofs.OrderLaws.{first, second, same_key, flip, above_first, above_lower}
use Rattle.df_colls.proofs.PlaceLaws.{present, absent, at_within, goes_within}
use Rattle.df_colls.proofs.CutLaws.{parted}

both : (a b : Bool) → T a → T b → T (a && b)
both true b p q = q
both false b p q = p

-- what is below a key that is at most k is below k
under : (x k a : Bytes) → (order k x ≡ Equal) ⊎ (order k x ≡ Greater) → order a x ≡ Less → order k a ≡ Greater
under x k a (inl e) l = flip a k Less (subst (λ y. order a y ≡ Less) (sym (same_key k x e)) l)
under x k a (inr g) l = flip a k Less (nat_list_cmp_total.trans a x k l (flip k x Greater g))

module _ {X : Type 0} where
  -- ---- a part of a list in order

  sorted_behind : (fs bs : List (Bytes × X)) → T (is_sorted order (fs ++ bs)) → T (is_sorted order bs)
  sorted_behind [] bs s = s
  sorted_behind (a ∷ fs) bs s = sorted_behind fs bs (second _ _ s)

  below_front : (k : Bytes) (fs bs : List (Bytes × X)) → T (below_all order k (fs ++ bs)) → T (below_all order k fs)
  below_front k [] bs h = tt
  below_front k (a ∷ fs) bs h = both _ _ (first _ _ h) (below_front k fs bs (second _ _ h))

  sorted_front : (fs bs : List (Bytes × X)) → T (is_sorted order (fs ++ bs)) → T (is_sorted order fs)
  sorted_front [] bs s = tt
  sorted_front (a ∷ fs) bs s = both _ _ (below_front a.0 fs bs (first _ _ s)) (sorted_front fs bs (second _ _ s))

  pub sorted_chunk : (ps : List (List (Bytes × X))) (i : ℕ) → i < length ps → T (is_sorted order (flat ps)) → T (is_sorted order (chunk_at ps i))
  sorted_chunk ps i lt s =
      sorted_front (chunk_at ps i) _ (sorted_behind (flat (take i ps)) _ (subst (λ es. T (is_sorted order es)) (parted ps i lt) s))

  -- ---- a place in a chunk is a place in the list

  above_both : (k : Bytes) (fs bs : List (Bytes × X)) → AllAbove k fs → AllAbove k bs → AllAbove k (fs ++ bs)
  above_both k [] bs h r = r
  above_both k (a ∷ fs) bs h r = (h.0, above_both k fs bs h.1 r)

  at_front : (k : Bytes) (b cs : List (Bytes × X)) (j : ℕ) → IsAt k b j → IsAt k (b ++ cs) j
  at_front k [] cs j h = absurd h
  at_front k (e ∷ b) cs zero h = h
  at_front k (e ∷ b) cs (suc j) h = (h.0, at_front k b cs j h.1)

  at_in : (k : Bytes) (fs b cs : List (Bytes × X)) (j i : ℕ) → AllBelow k fs → IsAt k b j → i ≡ length fs + j → IsAt k (fs ++ (b ++ cs)) i
  at_in k [] b cs j i l h e = subst (IsAt k (b ++ cs)) (sym (e ∙ zero-add j)) (at_front k b cs j h)
  at_in k (a ∷ fs) b cs j zero l h e = absurd (omega (arith, e))
  at_in k (a ∷ fs) b cs j (suc i) l h e = (l.0, at_in k fs b cs j i l.1 h (omega (arith, e)))

  goes_front : (k : Bytes) (b cs : List (Bytes × X)) (j : ℕ) → GoesTo k b j → AllAbove k cs → GoesTo k (b ++ cs) j
  goes_front k b cs zero h r = above_both k b cs h r
  goes_front k [] cs (suc j) h r = absurd h
  goes_front k (e ∷ b) cs (suc j) h r = (h.0, goes_front k b cs j h.1 r)

  goes_in : (k : Bytes) (fs b cs : List (Bytes × X)) (j i : ℕ) → AllBelow k fs → GoesTo k b j → AllAbove k cs → i ≡ length fs + j → GoesTo k (fs ++ (b ++ cs)) i
  goes_in k [] b cs j i l h r e = subst (GoesTo k (b ++ cs)) (sym (e ∙ zero-add j)) (goes_front k b cs j h r)
  goes_in k (a ∷ fs) b cs j zero l h r e = absurd (omega (arith, e))
  goes_in k (a ∷ fs) b cs j (suc i) l h r e = (l.0, goes_in k fs b cs j i l.1 h r (omega (arith, e)))

  behind_is : (k : Bytes) (ps : List (List (Bytes × X))) (i : ℕ) → IsHome k ps i → AllAbove k (flat (drop (suc i) ps))
  behind_is k ps i h = subst (λ n. AllAbove k (flat (drop n ps))) (add-one i) h.behind

  pub found : (k : Bytes) (ps : List (List (Bytes × X))) (p : Place) → T (is_sorted order (flat ps)) → IsHome k ps p.chunk → p.chunk < length ps → IsAt k (chunk_at ps p.chunk) p.at → IsFound k ps p
  found k ps p s home lt h = record {
    within = (lt, at_within k (chunk_at ps p.chunk) p.at h);
    present = present k (flat ps) _ s (subst (λ es. IsAt k es (length (flat (take p.chunk ps)) + p.at)) (sym (parted ps p.chunk lt)) (at_in k _ _ _ p.at _ home.before h refl));
  }

  pub missing : (k : Bytes) (ps : List (List (Bytes × X))) (p : Place) → T (is_sorted order (flat ps)) → IsHome k ps p.chunk → p.chunk < length ps → GoesTo k (chunk_at ps p.chunk) p.at → IsMissing k ps p
  missing k ps p s home lt h = record {
    within = λ _. (lt, goes_within k (chunk_at ps p.chunk) p.at h);
    absent = absent k (flat ps) _ s (subst (λ es. GoesTo k es (length (flat (take p.chunk ps)) + p.at)) (sym (parted ps p.chunk lt)) (goes_in k _ _ _ p.at _ home.before h (behind_is k ps p.chunk home) refl));
  }

  -- no chunk, no entry
  pub missing_none : (k : Bytes) (ps : List (List (Bytes × X))) (p : Place) → length ps ≡ 0 → p.chunk ≡ 0 → p.at ≡ 0 → IsMissing k ps p
  missing_none k ps p e z zero_at =
      let none : ps ≡ [] = nothing ps e in
      let at : index_of ps p ≡ 0 = ap (λ qs. length (flat (take p.chunk qs)) + p.at) none ∙ ap (λ i. length (flat (take i (let qs : List (List (Bytes × X)) = [] in qs))) + p.at) z ∙ ap (λ i. 0 + i) zero_at in
      record {
        within = λ lt. absurd (omega (arith, e, lt));
        absent = subst (λ i. Absent k (flat ps) i) (sym at) (subst (λ qs. Absent k (flat qs) 0) (sym none) (absent k [] 0 tt tt));
      }
    where
      nothing : (qs : List (List (Bytes × X))) → length qs ≡ 0 → qs ≡ []
      nothing [] e = refl
      nothing (q ∷ qs) e = absurd (omega (arith, e))

  -- ---- the first key of a chunk tells on which side a key is

  next_above : (k : Bytes) (fs r : List (Bytes × X)) (e : Bytes × X) → AllAbove k (fs ++ e ∷ r) → order k e.0 ≡ Less
  next_above k [] r e h = h.0
  next_above k (a ∷ fs) r e h = next_above k fs r e h.1

  all_below : (k : Bytes) (fs r : List (Bytes × X)) (e : Bytes × X) → (order k e.0 ≡ Equal) ⊎ (order k e.0 ≡ Greater) → T (is_sorted order (fs ++ e ∷ r)) → AllBelow k fs
  all_below k [] r e at s = tt
  all_below k (a ∷ fs) r e at s = (under e.0 k a.0 at (next_above a.0 fs r e (above_first a _ s)), all_below k fs r e at (second _ _ s))

  pub begins_below : (k : Bytes) (ps : List (List (Bytes × X))) (i : ℕ) (c : List (Bytes × X)) → T (is_sorted order (flat ps)) → i < length ps → chunk_at ps i ≡ c → 0 < length c → Starts k c false → AllBelow k (flat (take i ps))
  begins_below k ps i [] s lt e some h = absurd (omega arith)
  begins_below k ps i (x ∷ c) s lt e some h =
      all_below k _ _ x h (subst (λ es. T (is_sorted order es)) (parted ps i lt ∙ ap (λ b. flat (take i ps) ++ (b ++ flat (drop (suc i) ps))) e) s)

  pub begins_above : (k : Bytes) (ps : List (List (Bytes × X))) (i : ℕ) (c : List (Bytes × X)) → T (is_sorted order (flat ps)) → i < length ps → chunk_at ps i ≡ c → Starts k c true → AllAbove k (flat (drop i ps))
  begins_above k ps i [] s lt e h = absurd (impossible h)
    where
      impossible : true ≡ false → ⊥
      impossible e = cc
  begins_above k ps i (x ∷ c) s lt e h =
      let from = dropped ps i lt ∙ ap (λ b. b ++ flat (drop (suc i) ps)) e in
      subst (AllAbove k) (sym from) (h, above_lower k x.0 _ h (above_first x _ (subst (λ es. T (is_sorted order es)) from (behind_sorted ps i s))))
    where
      dropped : (qs : List (List (Bytes × X))) (i : ℕ) → i < length qs → flat (drop i qs) ≡ chunk_at qs i ++ flat (drop (suc i) qs)
      dropped [] i lt = absurd (omega arith)
      dropped (q ∷ qs) zero lt = refl
      dropped (q ∷ qs) (suc i) lt = dropped qs i (omega arith)

      behind_sorted : (qs : List (List (Bytes × X))) (i : ℕ) → T (is_sorted order (flat qs)) → T (is_sorted order (flat (drop i qs)))
      behind_sorted qs zero s = s
      behind_sorted [] (suc i) s = s
      behind_sorted (q ∷ qs) (suc i) s = behind_sorted qs i (sorted_behind q (flat qs) s)
