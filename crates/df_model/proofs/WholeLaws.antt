-- A row of several keys that looks at no others may be run on the whole keyspace: there it gives the same reply and
-- leaves the same, so that nothing has to be cut out of the keyspace and put back.
use Rattle.std.proofs.Common.{◌≡◌, ℕ, ◌+◌, ◌-◌, Bool, true, false, cond, List, [], ◌∷◌, ◌++◌, map, refl, sym, ap, subst, ◌∙◌, arith, append-nil}
use Rattle.std.specs.Prelude.{Option, Some, None, ◌||◌, is_some}
use Rattle.std.specs.Ordering.{is_eq}
use Rattle.std.specs.Cmp.{eq_by_cmp_equiv, tied_itself}
use Rattle.std.specs.Cmp.Lexicographic.{nat_list_cmp_total, texts_ties}
use Rattle.std.specs.FinMap.{len-insert, len-remove, same_map, slice_cmp-IsAntisymmetric, nat_cmp-IsAntisymmetric}
use Rattle.std.specs.FinMap as fin
use Rattle.df_model.specs.Values.{Bytes, Value}
use Rattle.df_model.specs.Words.{same}
use Rattle.df_model.specs.Keyspace.{Keyspace, held, with_held}
use Rattle.df_model.specs.Outcomes.{ok, count, array}
use Rattle.df_model.specs.Access.{Meaning, among, part, taken_over, does, looking, changing}
use Rattle.df_model.specs.Meaning.{firsts}
use Rattle.df_model.specs.Meaning.Any as any
use Rattle.df_model.specs.Meaning.Strings as strings
use Rattle.df_model.specs.declared.reply.Reply.{Reply}
use Rattle.df_model.proofs.LocalityLaws.{tied, held_with, held_part, held_taken_over, equal, same_bytes, same_itself}

-- ---- keyspaces that agree at some keys

abbrev pub Alike : List Bytes → Keyspace → Keyspace → Type 0
Alike ks K L = (q : Bytes) → among ks q ≡ true → held K q ≡ held L q

pub part_alike : (K : Keyspace) (ks : List Bytes) → Alike ks K (part K ks)
part_alike K ks q n = sym (held_part K ks q ∙ ap (λ b. cond b (held K q) None) n)

-- they agree after the same change of a key
pub alike_with : (ks : List Bytes) (K L : Keyspace) (k : Bytes) (v : Option Value) → Alike ks K L → Alike ks (with_held K k v) (with_held L k v)
alike_with ks K L k v a q n = held_with K k v q ∙ ap (cond (tied q k) v) (a q n) ∙ sym (held_with L k v q)

pub same_map_by : (K L : Keyspace) → ((q : Bytes) → held K q ≡ held L q) → K ≡ L
same_map_by K L = same_map nat_list_cmp_total (slice_cmp-IsAntisymmetric nat_cmp-IsAntisymmetric) K L

-- the two ways to say that two keys are the same
pub tied_is_same : (q k : Bytes) → tied q k ≡ same k q
tied_is_same q k = (eq_by_cmp_equiv nat_list_cmp_total).symm q k ∙ sym (texts_ties k q)

pub neither : (a b : Bool) → (a || b) ≡ false → (a ≡ false) × (b ≡ false)
neither true b e = cc
neither false b e = (refl, e)

pub first_among : (k : Bytes) (ks : List Bytes) → among (k ∷ ks) k ≡ true
first_among k ks = ap (λ b. b || among ks k) (same_itself k)

pub later_among : (k q : Bytes) (ks : List Bytes) → among ks q ≡ true → among (k ∷ ks) q ≡ true
later_among k q ks n = either (same k q) (among ks q) n
  where
    either : (a b : Bool) → b ≡ true → (a || b) ≡ true
    either true b e = refl
    either false b e = e

-- another key keeps what it holds
pub held_other : (K : Keyspace) (k q : Bytes) (v : Option Value) → same k q ≡ false → held (with_held K k v) q ≡ held K q
held_other K k q v e = held_with K k v q ∙ ap (λ b. cond b v (held K q)) (tied_is_same q k ∙ e)

pub held_same : (K : Keyspace) (k : Bytes) (v : Option Value) → held (with_held K k v) k ≡ v
held_same K k v = held_with K k v k ∙ ap (λ b. cond b v (held K k)) (ap is_eq (tied_itself nat_list_cmp_total k))

-- ---- the law

-- the row gives the same reply and leaves the same at the keys, whatever else is there, and changes no other key
pub record LooksAt (ks : List Bytes) (row : Keyspace → Meaning) : Type 0 where
  pub reply : (K L : Keyspace) → Alike ks K L → (row K).0 ≡ (row L).0
  pub left : (K L : Keyspace) → Alike ks K L → Alike ks (row K).1 (row L).1
  pub others : (K : Keyspace) (q : Bytes) → among ks q ≡ false → held (row K).1 q ≡ held K q

pub by_key : (b : Bool) (v w x : Option Value) → (b ≡ true → v ≡ w) → (b ≡ false → v ≡ x) → cond b w x ≡ v
by_key true v w x h g = sym (h refl)
by_key false v w x h g = sym (g refl)

pub changing_whole : (ks : List Bytes) (row : Keyspace → Meaning) (K : Keyspace) → LooksAt ks row → does (changing ks row) K ≡ row K
changing_whole ks row K looks =
    let L : Keyspace = part K ks in
    let alike : Alike ks K L = part_alike K ks in
    let reply : (row L).0 ≡ (row K).0 = sym (looks.reply K L alike) in
    let left : taken_over K ks (row L).1 ≡ (row K).1 = same_map_by _ _ (λ q.
    held_taken_over K ks (row L).1 q
    ∙ by_key (among ks q) (held (row K).1 q) (held (row L).1 q) (held K q) (looks.left K L alike q) (looks.others K q)) in
    ap (λ r. (r, taken_over K ks (row L).1)) reply ∙ ap (λ m. ((row K).0, m)) left

pub looking_whole : (ks : List Bytes) (row : Keyspace → Reply) (K : Keyspace) → ((L : Keyspace) → Alike ks K L → row K ≡ row L) → does (looking ks row) K ≡ (row K, K)
looking_whole ks row K h = ap (λ r. (r, K)) (sym (h (part K (ks ++ [])) (subst (λ names. Alike ks K (part K names)) (sym (append-nil ks)) (part_alike K ks))))

-- ---- DEL and UNLINK

without_alike : (ws ks : List Bytes) (K L : Keyspace) → Alike ks K L → Alike ks (any.without_keys ws K) (any.without_keys ws L)
without_alike [] ks K L a = a
without_alike (k ∷ ws) ks K L a = without_alike ws ks (fin.remove K k) (fin.remove L k) (alike_with ks K L k None a)

without_others : (ws : List Bytes) (K : Keyspace) (q : Bytes) → among ws q ≡ false → held (any.without_keys ws K) q ≡ held K q
without_others [] K q n = refl
without_others (k ∷ ws) K q n =
    let apart : (same k q ≡ false) × (among ws q ≡ false) = neither (same k q) (among ws q) n in
    without_others ws (fin.remove K k) q apart.1 ∙ held_other K k q None apart.0

-- how many of the keys are there, each once
abbrev pub gone : List Bytes → Keyspace → ℕ
gone [] K = 0
gone (k ∷ ws) K = cond (is_some (held K k)) 1 0 + gone ws (fin.remove K k)

gone_alike : (ws : List Bytes) (K L : Keyspace) → Alike ws K L → gone ws K ≡ gone ws L
gone_alike [] K L a = refl
gone_alike (k ∷ ws) K L a =
    ap (λ v. cond (is_some v) 1 0 + gone ws (fin.remove K k)) (a k (first_among k ws))
    ∙ ap (λ n. cond (is_some (held L k)) 1 0 + n) (gone_alike ws (fin.remove K k) (fin.remove L k) (alike_with ws K L k None (λ q n. a q (later_among k q ws n))))

pub tied_bytes : (q k : Bytes) → tied q k ≡ true → q ≡ k
tied_bytes q k e = same_bytes q k (equal _ e)

put_after : (K : Keyspace) (k q : Bytes) (v : Value) (b : Bool) → tied q k ≡ b → held K k ≡ Some v → cond b (Some v) (cond b None (held K q)) ≡ held K q
put_after K k q v true t e = sym e ∙ ap (held K) (sym (tied_bytes q k t))
put_after K k q v false t e = refl

-- what a key holds may be taken out and put back
taken_and_put : (K : Keyspace) (k : Bytes) (v : Value) → held K k ≡ Some v → fin.insert (fin.remove K k) k v ≡ K
taken_and_put K k v e = same_map_by _ _ (λ q.
    held_with (fin.remove K k) k (Some v) q
    ∙ ap (cond (tied q k) (Some v)) (held_with K k None q)
    ∙ put_after K k q v (tied q k) refl e)

-- a removal takes one key, if it is there
pub one_less : (K : Keyspace) (k : Bytes) → cond (is_some (held K k)) 1 0 + fin.len (fin.remove K k) ≡ fin.len K
one_less K k = by (held K k) refl
  where
    by : (v : Option Value) → held K k ≡ v → cond (is_some v) 1 0 + fin.len (fin.remove K k) ≡ fin.len K
    by None e = omega (arith, len-remove nat_list_cmp_total K k ∙ ap (λ o. cond (is_some o) (fin.len K - 1) (fin.len K)) e)
    by (Some v) e =
        omega (
          arith,
          ap fin.len (sym (taken_and_put K k v e))
              ∙ len-insert nat_list_cmp_total (fin.remove K k) k v
              ∙ ap (λ o. cond (is_some o) (fin.len (fin.remove K k)) (fin.len (fin.remove K k) + 1)) (held_same K k None),
        )

pub len_without : (ws : List Bytes) (K : Keyspace) → gone ws K + fin.len (any.without_keys ws K) ≡ fin.len K
len_without [] K = omega arith
len_without (k ∷ ws) K = omega (arith, len_without ws (fin.remove K k), one_less K k)

removed : (ws : List Bytes) (K : Keyspace) → fin.len K - fin.len (any.without_keys ws K) ≡ gone ws K
removed ws K = omega (arith, len_without ws K)

del_looks : (ws : List Bytes) → LooksAt ws (any.del ws)
del_looks ws = record {
  reply = λ K L a. ap count (removed ws K ∙ gone_alike ws K L a ∙ sym (removed ws L));
  left = λ K L a. without_alike ws ws K L a;
  others = λ K q n. without_others ws K q n;
}

pub del_whole : (ws : List Bytes) (K : Keyspace) → does (changing ws (any.del ws)) K ≡ any.del ws K
del_whole ws K = changing_whole ws (any.del ws) K (del_looks ws)

-- ---- EXISTS and MGET

present_alike : (ws : List Bytes) (K L : Keyspace) → Alike ws K L → any.present K ws ≡ any.present L ws
present_alike [] K L a = refl
present_alike (k ∷ ws) K L a =
    ap (λ v. cond (is_some v) 1 0 + any.present K ws) (a k (first_among k ws))
    ∙ ap (λ n. cond (is_some (held L k)) 1 0 + n) (present_alike ws K L (λ q n. a q (later_among k q ws n)))

pub exists_whole : (ws : List Bytes) (K : Keyspace) → does (looking ws (any.exists ws)) K ≡ (any.exists ws K, K)
exists_whole ws K = looking_whole ws (any.exists ws) K (λ L a. ap count (present_alike ws K L a))

strings_alike : (ws : List Bytes) (K L : Keyspace) → Alike ws K L → map (λ k. strings.string_or_null (held K k)) ws ≡ map (λ k. strings.string_or_null (held L k)) ws
strings_alike [] K L a = refl
strings_alike (k ∷ ws) K L a =
    ap (λ v. strings.string_or_null v ∷ map (λ q. strings.string_or_null (held K q)) ws) (a k (first_among k ws))
    ∙ ap (λ rs. strings.string_or_null (held L k) ∷ rs) (strings_alike ws K L (λ q n. a q (later_among k q ws n)))

pub mget_whole : (ws : List Bytes) (K : Keyspace) → does (looking ws (strings.mget ws)) K ≡ (strings.mget ws K, K)
mget_whole ws K = looking_whole ws (strings.mget ws) K (λ L a. ap array (strings_alike ws K L a))

-- ---- MSET and MSETNX

strings_put_alike : (ps : List (Bytes × Bytes)) (ks : List Bytes) (K L : Keyspace) → Alike ks K L → Alike ks (strings.with_strings ps K) (strings.with_strings ps L)
strings_put_alike [] ks K L a = a
strings_put_alike (p ∷ ps) ks K L a = strings_put_alike ps ks (fin.insert K p.0 (Value.Str p.1)) (fin.insert L p.0 (Value.Str p.1)) (alike_with ks K L p.0 (Some (Value.Str p.1)) a)

strings_put_others : (ps : List (Bytes × Bytes)) (K : Keyspace) (q : Bytes) → among (firsts ps) q ≡ false → held (strings.with_strings ps K) q ≡ held K q
strings_put_others [] K q n = refl
strings_put_others (p ∷ ps) K q n =
    let apart : (same p.0 q ≡ false) × (among (firsts ps) q ≡ false) = neither (same p.0 q) (among (firsts ps) q) n in
    strings_put_others ps (fin.insert K p.0 (Value.Str p.1)) q apart.1 ∙ held_other K p.0 q (Some (Value.Str p.1)) apart.0

mset_looks : (ps : List (Bytes × Bytes)) → LooksAt (firsts ps) (strings.mset ps)
mset_looks ps = record {
  reply = λ K L a. refl;
  left = λ K L a. strings_put_alike ps (firsts ps) K L a;
  others = λ K q n. strings_put_others ps K q n;
}

pub mset_whole : (ps : List (Bytes × Bytes)) (K : Keyspace) → does (changing (firsts ps) (strings.mset ps)) K ≡ strings.mset ps K
mset_whole ps K = changing_whole (firsts ps) (strings.mset ps) K (mset_looks ps)

any_alike : (ps : List (Bytes × Bytes)) (K L : Keyspace) → Alike (firsts ps) K L → strings.any_held K ps ≡ strings.any_held L ps
any_alike [] K L a = refl
any_alike (p ∷ ps) K L a =
    ap (λ v. is_some v || strings.any_held K ps) (a p.0 (first_among p.0 (firsts ps)))
    ∙ ap (λ b. is_some (held L p.0) || b) (any_alike ps K L (λ q n. a q (later_among p.0 q (firsts ps) n)))

-- one of two rows, by a test that both keyspaces pass alike
abbrev chosen : Bool → Meaning → Meaning → Meaning
chosen b one other = cond b one other

chosen_reply : (b : Bool) (one other : Meaning) → (chosen b one other).0 ≡ cond b one.0 other.0
chosen_reply true one other = refl
chosen_reply false one other = refl

chosen_left : (b c : Bool) (ks : List Bytes) (one other one' other' : Meaning) → b ≡ c → Alike ks one.1 one'.1 → Alike ks other.1 other'.1 → Alike ks (chosen b one other).1 (chosen c one' other').1
chosen_left true true ks one other one' other' e p q = p
chosen_left false false ks one other one' other' e p q = q
chosen_left true false ks one other one' other' e p q = cc
chosen_left false true ks one other one' other' e p q = cc

chosen_others : (b : Bool) (one other : Meaning) (q : Bytes) (v : Option Value) → held one.1 q ≡ v → held other.1 q ≡ v → held (chosen b one other).1 q ≡ v
chosen_others true one other q v e f = e
chosen_others false one other q v e f = f

msetnx_looks : (ps : List (Bytes × Bytes)) → LooksAt (firsts ps) (strings.msetnx ps)
msetnx_looks ps = record {
  reply = λ K L a.
      chosen_reply (strings.any_held K ps) (count 0, K) (count 1, strings.with_strings ps K)
      ∙ ap (λ b. cond b (count 0) (count 1)) (any_alike ps K L a)
      ∙ sym (chosen_reply (strings.any_held L ps) (count 0, L) (count 1, strings.with_strings ps L));
  left = λ K L a. chosen_left (strings.any_held K ps) (strings.any_held L ps) (firsts ps) (count 0, K) (count 1, strings.with_strings ps K) (count 0, L) (count 1, strings.with_strings ps L)
      (any_alike ps K L a) a (strings_put_alike ps (firsts ps) K L a);
  others = λ K q n. chosen_others (strings.any_held K ps) (count 0, K) (count 1, strings.with_strings ps K) q (held K q) refl (strings_put_others ps K q n);
}

pub msetnx_whole : (ps : List (Bytes × Bytes)) (K : Keyspace) → does (changing (firsts ps) (strings.msetnx ps)) K ≡ strings.msetnx ps K
msetnx_whole ps K = changing_whole (firsts ps) (strings.msetnx ps) K (msetnx_looks ps)

-- ---- RENAME and RENAMENX

pub second_among : (s d : Bytes) → among (s ∷ d ∷ []) d ≡ true
second_among s d = later_among s d (d ∷ []) (first_among d [])

moved_reply : (s d : Bytes) (reply : Reply) (v : Option Value) (K L : Keyspace) → (any.moved s d reply v K).0 ≡ (any.moved s d reply v L).0
moved_reply s d reply None K L = refl
moved_reply s d reply (Some v) K L = refl

moved_left : (s d : Bytes) (reply : Reply) (v : Option Value) (ks : List Bytes) (K L : Keyspace) → Alike ks K L → Alike ks (any.moved s d reply v K).1 (any.moved s d reply v L).1
moved_left s d reply None ks K L a = a
moved_left s d reply (Some v) ks K L a = alike_with ks (fin.remove K s) (fin.remove L s) d (Some v) (alike_with ks K L s None a)

moved_others : (s d : Bytes) (reply : Reply) (v : Option Value) (K : Keyspace) (q : Bytes) → among (s ∷ d ∷ []) q ≡ false → held (any.moved s d reply v K).1 q ≡ held K q
moved_others s d reply None K q n = refl
moved_others s d reply (Some v) K q n =
    let apart : (same s q ≡ false) × ((same d q || false) ≡ false) = neither (same s q) (same d q || false) n in
    held_other (fin.remove K s) d q (Some v) (neither (same d q) false apart.1).0 ∙ held_other K s q None apart.0

rename_looks : (s d : Bytes) → LooksAt (s ∷ d ∷ []) (any.rename s d)
rename_looks s d = record {
  reply = λ K L a. ap (λ v. (any.moved s d ok v K).0) (a s (first_among s (d ∷ []))) ∙ moved_reply s d ok (held L s) K L;
  left = λ K L a. subst (λ v. Alike (s ∷ d ∷ []) (any.moved s d ok (held K s) K).1 (any.moved s d ok v L).1) (a s (first_among s (d ∷ []))) (moved_left s d ok (held K s) (s ∷ d ∷ []) K L a);
  others = λ K q n. moved_others s d ok (held K s) K q n;
}

pub rename_whole : (s d : Bytes) (K : Keyspace) → does (changing (s ∷ d ∷ []) (any.rename s d)) K ≡ any.rename s d K
rename_whole s d K = changing_whole (s ∷ d ∷ []) (any.rename s d) K (rename_looks s d)

unless_reply : (s d : Bytes) (v there : Option Value) (K L : Keyspace) → (any.moved_unless s d v there K).0 ≡ (any.moved_unless s d v there L).0
unless_reply s d None there K L = refl
unless_reply s d (Some v) None K L = refl
unless_reply s d (Some v) (Some other) K L = refl

unless_left : (s d : Bytes) (v there : Option Value) (ks : List Bytes) (K L : Keyspace) → Alike ks K L → Alike ks (any.moved_unless s d v there K).1 (any.moved_unless s d v there L).1
unless_left s d None there ks K L a = a
unless_left s d (Some v) None ks K L a = moved_left s d (count 1) (Some v) ks K L a
unless_left s d (Some v) (Some other) ks K L a = a

unless_others : (s d : Bytes) (v there : Option Value) (K : Keyspace) (q : Bytes) → among (s ∷ d ∷ []) q ≡ false → held (any.moved_unless s d v there K).1 q ≡ held K q
unless_others s d None there K q n = refl
unless_others s d (Some v) None K q n = moved_others s d (count 1) (Some v) K q n
unless_others s d (Some v) (Some other) K q n = refl

renamenx_looks : (s d : Bytes) → LooksAt (s ∷ d ∷ []) (any.renamenx s d)
renamenx_looks s d = record {
  reply = λ K L a.
      ap (λ v. (any.moved_unless s d v (held K d) K).0) (a s (first_among s (d ∷ [])))
      ∙ ap (λ v. (any.moved_unless s d (held L s) v K).0) (a d (second_among s d))
      ∙ unless_reply s d (held L s) (held L d) K L;
  left = λ K L a.
      subst (λ v. Alike (s ∷ d ∷ []) (any.moved_unless s d (held K s) (held K d) K).1 (any.moved_unless s d v (held L d) L).1) (a s (first_among s (d ∷ [])))
      (subst (λ v. Alike (s ∷ d ∷ []) (any.moved_unless s d (held K s) (held K d) K).1 (any.moved_unless s d (held K s) v L).1) (a d (second_among s d))
      (unless_left s d (held K s) (held K d) (s ∷ d ∷ []) K L a));
  others = λ K q n. unless_others s d (held K s) (held K d) K q n;
}

pub renamenx_whole : (s d : Bytes) (K : Keyspace) → does (changing (s ∷ d ∷ []) (any.renamenx s d)) K ≡ any.renamenx s d K
renamenx_whole s d K = changing_whole (s ∷ d ∷ []) (any.renamenx s d) K (renamenx_looks s d)
