-- A command's reply and what it leaves at the keys that it names depend on these keys alone, and every key that it doesn't write stays.
use Rattle.std.proofs.Common.{◌≡◌, Bool, true, false, cond, List, [], ◌∷◌, ◌++◌, refl, sym, ap, ◌∙◌}
use Rattle.std.specs.Prelude.{Option, Some, None, ◌||◌, nat_eq}
use Rattle.std.proofs.lemmas.Bool.{false≢true}
use Rattle.std.specs.Ordering.{nat_cmp, is_eq, eq_by_cmp}
use Rattle.std.specs.Cmp.{eq_by_cmp_equiv, tied_itself}
use Rattle.std.specs.Cmp.Lexicographic.{pointwise, slice_cmp, nat_list_cmp_total, texts_ties}
use Rattle.std.specs.declared.cmp.Ordering.{Ordering}
use Rattle.std.specs.declared.cmp.Ordering.TheVariants.{Less, Equal, Greater}
use Rattle.std.specs.FinMap.{get-insert, get-remove, get-retain_keys, same_map, slice_cmp-IsAntisymmetric, nat_cmp-IsAntisymmetric}
use Rattle.df_model.specs.Values.{Bytes, Value}
use Rattle.df_model.specs.Keyspace.{Keyspace, held, with_held}
use Rattle.df_model.specs.Access.{Access, names, among, part, taken_over, does, on_key}
use Rattle.df_model.specs.Outcomes.{KeyRow, Outcome, settled}
use Rattle.df_model.specs.declared.reply.Reply.{Reply}

abbrev pub tied : Bytes → Bytes → Bool
tied = eq_by_cmp (slice_cmp nat_cmp)

pub equal : (r : Ordering) → is_eq r ≡ true → r ≡ Equal
equal Less e = absurd (false≢true e)
equal Equal e = refl
equal Greater e = absurd (false≢true e)

pub same_bytes : (a b : Bytes) → slice_cmp nat_cmp a b ≡ Equal → a ≡ b
same_bytes = slice_cmp-IsAntisymmetric nat_cmp-IsAntisymmetric

-- what a key holds where another key was put or removed
pub held_with : (K : Keyspace) (k : Bytes) (v : Option Value) (q : Bytes) → held (with_held K k v) q ≡ cond (tied q k) v (held K q)
held_with K k None q = get-remove nat_list_cmp_total K k q
held_with K k (Some v) q = get-insert nat_list_cmp_total K k v q

pub held_part : (K : Keyspace) (ks : List Bytes) (q : Bytes) → held (part K ks) q ≡ cond (among ks q) (held K q) None
held_part K ks q = get-retain_keys K (among ks) q (λ x e. ap (among ks) (sym (same_bytes q x e)))

agree : (b : Bool) (x y : Option Value) → (b ≡ true → x ≡ y) → cond b x None ≡ cond b y None
agree true x y h = h refl
agree false x y h = refl

-- keyspaces that agree at the keys have the same part there
pub same_part : (K L : Keyspace) (ks : List Bytes) → ((k : Bytes) → among ks k ≡ true → held K k ≡ held L k) → part K ks ≡ part L ks
same_part K L ks h = same_map nat_list_cmp_total (slice_cmp-IsAntisymmetric nat_cmp-IsAntisymmetric) _ _ (λ q.
    held_part K ks q ∙ agree (among ks q) (held K q) (held L q) (h q) ∙ sym (held_part L ks q))

over_tied : (b c : Bool) (v w x : Option Value) → (b ≡ true → v ≡ w) → cond b v (cond c w x) ≡ cond (b || c) w x
over_tied true c v w x h = h refl
over_tied false c v w x h = refl

-- what a key holds once another keyspace was taken over at the keys ws
pub held_taken_over : (K : Keyspace) (ws : List Bytes) (new : Keyspace) (q : Bytes) → held (taken_over K ws new) q ≡ cond (among ws q) (held new q) (held K q)
held_taken_over K [] new q = refl
held_taken_over K (k ∷ ws) new q =
    held_with (taken_over K ws new) k (held new k) q
    ∙ ap (cond (tied q k) (held new k)) (held_taken_over K ws new q)
    ∙ ap (λ b. cond b (held new k) (cond (among ws q) (held new q) (held K q))) ((eq_by_cmp_equiv nat_list_cmp_total).symm q k ∙ sym (texts_ties k q))
    ∙ over_tied (pointwise nat_eq k q) (among ws q) (held new k) (held new q) (held K q) (λ e. ap (held new) (same_bytes k q (equal _ (sym (texts_ties k q) ∙ e))))

pub front_of : (rs ws : List Bytes) (q : Bytes) → among ws q ≡ true → among (rs ++ ws) q ≡ true
front_of [] ws q e = e
front_of (r ∷ rs) ws q e = either (pointwise nat_eq r q) (among (rs ++ ws) q) (front_of rs ws q e)
  where
    either : (a b : Bool) → b ≡ true → (a || b) ≡ true
    either true b e = refl
    either false b e = e

-- the law of locality: it holds of whatever row stands in the access
module _ (a : Access) (K L : Keyspace) (alike : (k : Bytes) → among (names a) k ≡ true → held K k ≡ held L k) where
  same_row : a.row (part K (names a)) ≡ a.row (part L (names a))
  same_row = ap a.row (same_part K L (names a) alike)

  pub same_reply : (does a K).0 ≡ (does a L).0
  same_reply = ap (λ m. m.0) same_row

  pub same_left : (k : Bytes) → among (names a) k ≡ true → held (does a K).1 k ≡ held (does a L).1 k
  same_left k n =
      held_taken_over K a.writes (a.row (part K (names a))).1 k
      ∙ ap (λ m. cond (among a.writes k) (held m.1 k) (held K k)) same_row
      ∙ ap (cond (among a.writes k) (held (a.row (part L (names a))).1 k)) (alike k n)
      ∙ sym (held_taken_over L a.writes (a.row (part L (names a))).1 k)

-- a key that the access doesn't write stays, also where it is read
pub others : (a : Access) (K : Keyspace) (k : Bytes) → among a.writes k ≡ false → held (does a K).1 k ≡ held K k
others a K k e = held_taken_over K a.writes (a.row (part K (names a))).1 k ∙ ap (λ b. cond b (held (a.row (part K (names a))).1 k) (held K k)) e

-- a key that may be written may be looked at
pub within : (a : Access) (k : Bytes) → among a.writes k ≡ true → among (names a) k ≡ true
within a k e = front_of a.reads a.writes k e

pub same_itself : (k : Bytes) → pointwise nat_eq k k ≡ true
same_itself k = texts_ties k k ∙ ap is_eq (tied_itself nat_list_cmp_total k)

-- a command of one key that writes, as the tables say it: its row on what the key holds
pub writes_one : (key : Bytes) (row : Option Value → Outcome) (K : Keyspace)
    → does (on_key key (KeyRow.Changes row)) K ≡ ((row (held K key)).0, with_held K key (settled (row (held K key)).1 (held K key)))
writes_one key row K =
    ap (λ v. ((row v).0, with_held K key (held (with_held (part K (key ∷ [])) key (settled (row v).1 v)) key))) at_key
    ∙ ap (λ w. ((row (held K key)).0, with_held K key w)) back
  where
    at_key : held (part K (key ∷ [])) key ≡ held K key
    at_key = held_part K (key ∷ []) key ∙ ap (λ b. cond (b || false) (held K key) None) (same_itself key)

    back : held (with_held (part K (key ∷ [])) key (settled (row (held K key)).1 (held K key))) key ≡ settled (row (held K key)).1 (held K key)
    back = held_with (part K (key ∷ [])) key (settled (row (held K key)).1 (held K key)) key ∙ ap (λ b. cond b (settled (row (held K key)).1 (held K key)) (held (part K (key ∷ [])) key)) (ap is_eq (tied_itself nat_list_cmp_total key))

-- and one that only reads
pub reads_one : (key : Bytes) (row : Option Value → Reply) (K : Keyspace) → does (on_key key (KeyRow.Looks row)) K ≡ (row (held K key), K)
reads_one key row K = ap (λ v. (row v, K)) (held_part K (key ∷ []) key ∙ ap (λ b. cond (b || false) (held K key) None) (same_itself key))
