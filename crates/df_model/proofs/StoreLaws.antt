-- Rows that combine sets, and those that put the result under a key of its own, may be run on the whole keyspace.
use Rattle.std.proofs.Common.{◌≡◌, Bool, true, false, List, [], ◌∷◌, ◌++◌, refl, sym, ap, ◌∙◌}
use Rattle.std.specs.Prelude.{Option, Some, None, ◌||◌}
use Rattle.df_model.specs.Values.{Bytes, Members}
use Rattle.df_model.specs.Words.{same}
use Rattle.df_model.specs.Keyspace.{Keyspace, held}
use Rattle.df_model.specs.Access.{Meaning, among, part, taken_over, does, looking}
use Rattle.df_model.specs.Meaning.{storing}
use Rattle.df_model.specs.Meaning.Sets as sets
use Rattle.df_model.proofs.LocalityLaws.{held_taken_over, front_of}
use Rattle.df_model.proofs.WholeLaws.{Alike, LooksAt, part_alike, same_map_by, by_key, looking_whole, first_among, later_among, neither}
use Rattle.df_model.proofs.MoveLaws.{Agree, looks_at, alike_change, others_change}

-- ---- the law: the row looks at the keys that it reads and at its own, and changes its own alone

pub storing_whole : (d : Bytes) (ks : List Bytes) (row : Keyspace → Meaning) (K : Keyspace) → LooksAt (ks ++ d ∷ []) row
    → ((q : Bytes) → among (d ∷ []) q ≡ false → held (row K).1 q ≡ held K q) → does (storing d ks row) K ≡ row K
storing_whole d ks row K looks others =
    let L : Keyspace = part K (ks ++ d ∷ []) in
    let alike : Alike (ks ++ d ∷ []) K L = part_alike K (ks ++ d ∷ []) in
    let reply : (row L).0 ≡ (row K).0 = sym (looks.reply K L alike) in
    let left : taken_over K (d ∷ []) (row L).1 ≡ (row K).1 = same_map_by _ _ (λ q.
    held_taken_over K (d ∷ []) (row L).1 q
    ∙ by_key (among (d ∷ []) q) (held (row K).1 q) (held (row L).1 q) (held K q) (λ n. looks.left K L alike q (front_of ks (d ∷ []) q n)) (others q)) in
    ap (λ r. (r, taken_over K (d ∷ []) (row L).1)) reply ∙ ap (λ m. ((row K).0, m)) left

-- ---- SINTER, SUNION and SDIFF

sets_alike : (ws : List Bytes) (K L : Keyspace) → Alike ws K L → sets.sets_of K ws ≡ sets.sets_of L ws
sets_alike [] K L a = refl
sets_alike (k ∷ ws) K L a =
    ap (λ v. sets.with_set (sets.members_of v) (sets.sets_of K ws)) (a k (first_among k ws))
    ∙ ap (sets.with_set (sets.members_of (held L k))) (sets_alike ws K L (λ q n. a q (later_among k q ws n)))

pub combined_whole : (combine : List Members → Members) (ws : List Bytes) (K : Keyspace) → does (looking ws (sets.combined combine ws)) K ≡ (sets.combined combine ws K, K)
combined_whole combine ws K = looking_whole ws (sets.combined combine ws) K (λ L a. ap (λ ss. sets.answered (sets.over combine ss)) (sets_alike ws K L a))

-- ---- SINTERSTORE, SUNIONSTORE and SDIFFSTORE

back_of : (ks : List Bytes) (d q : Bytes) → among ks q ≡ true → among (ks ++ d ∷ []) q ≡ true
back_of (k ∷ ks) d q e = either (same k q) (among ks q) (among (ks ++ d ∷ []) q) (back_of ks d q) e
  where
    either : (a b c : Bool) → (b ≡ true → c ≡ true) → (a || b) ≡ true → (a || c) ≡ true
    either true b c h e = refl
    either false b c h e = h e
back_of [] d q e = cc

kept_agree : (ks : List Bytes) (d : Bytes) (K L : Keyspace) (made : Option Members) → among ks d ≡ true → Alike ks K L → Agree ks (sets.kept d K made) (sets.kept d L made)
kept_agree ks d K L None n a = (refl, a)
kept_agree ks d K L (Some s) n a = (refl, alike_change ks K L d (sets.stored s) n a)

kept_others : (d : Bytes) (K : Keyspace) (made : Option Members) (q : Bytes) → among (d ∷ []) q ≡ false → held (sets.kept d K made).1 q ≡ held K q
kept_others d K None q n = refl
kept_others d K (Some s) q n = others_change K d q (sets.stored s) (neither (same d q) false n).0

apart_last : (ks : List Bytes) (d q : Bytes) → among (ks ++ d ∷ []) q ≡ false → among (d ∷ []) q ≡ false
apart_last [] d q n = n
apart_last (k ∷ ks) d q n = apart_last ks d q (neither (same k q) (among (ks ++ d ∷ []) q) n).1

module _ (combine : List Members → Members) (d : Bytes) (ks : List Bytes) where
  named : among (ks ++ d ∷ []) d ≡ true
  named = front_of ks (d ∷ []) d (first_among d [])

  store_agree : (K L : Keyspace) → Alike (ks ++ d ∷ []) K L → Agree (ks ++ d ∷ []) (sets.store combine d ks K) (sets.store combine d ks L)
  store_agree K L a =
      let same_sets : sets.sets_of L ks ≡ sets.sets_of K ks = sym (sets_alike ks K L (λ q n. a q (back_of ks d q n))) in
      let agree : Agree (ks ++ d ∷ []) (sets.store combine d ks K) (sets.kept d L (sets.over combine (sets.sets_of K ks))) = kept_agree (ks ++ d ∷ []) d K L (sets.over combine (sets.sets_of K ks)) named a in (
        agree.0 ∙ ap (λ ss. (sets.kept d L (sets.over combine ss)).0) (sym same_sets),
        λ q n. agree.1 q n ∙ ap (λ ss. held (sets.kept d L (sets.over combine ss)).1 q) (sym same_sets),
      )

  pub store_whole : (K : Keyspace) → does (storing d ks (sets.store combine d ks)) K ≡ sets.store combine d ks K
  store_whole K =
      storing_whole d ks (sets.store combine d ks) K
      (looks_at (ks ++ d ∷ []) (sets.store combine d ks) store_agree
      (λ M q n. kept_others d M (sets.over combine (sets.sets_of M ks)) q (apart_last ks d q n)))
      (λ q n. kept_others d K (sets.over combine (sets.sets_of K ks)) q n)
