-- Rows that move an element or a member from one key to another may be run on the whole keyspace.
use Rattle.std.proofs.Common.{◌≡◌, Bool, true, false, List, [], ◌∷◌, refl, ap, subst, ◌∙◌}
use Rattle.std.specs.Prelude.{Option, Some, None, ◌||◌, if◌then◌else◌}
use Rattle.df_model.specs.Values.{Bytes, Value, Members}
use Rattle.df_model.specs.Words.{same}
use Rattle.df_model.specs.Keyspace.{Keyspace, held, with_held}
use Rattle.df_model.specs.Access.{Meaning, among, does, changing, with_change}
use Rattle.df_model.specs.Outcomes.{Change, settled}
use Rattle.df_model.specs.Members as members
use Rattle.df_model.specs.Meaning.Lists as lists
use Rattle.df_model.specs.Meaning.Sets as sets
use Rattle.df_model.specs.declared.command.Side.{Side}
use Rattle.df_model.specs.declared.command.Side.TheVariants.{Left, Right}
use Rattle.df_model.proofs.WholeLaws.{Alike, LooksAt, alike_with, changing_whole, first_among, second_among, held_other, neither}

-- ---- what a row gives of keyspaces that agree at some keys

abbrev pub Agree : List Bytes → Meaning → Meaning → Type 0
Agree ks m n = (m.0 ≡ n.0) × Alike ks m.1 n.1

pub looks_at : (ks : List Bytes) (row : Keyspace → Meaning) → ((K L : Keyspace) → Alike ks K L → Agree ks (row K) (row L))
    → ((K : Keyspace) (q : Bytes) → among ks q ≡ false → held (row K).1 q ≡ held K q) → LooksAt ks row
looks_at ks row agree others = record {
  reply = λ K L a. (agree K L a).0;
  left = λ K L a. (agree K L a).1;
  others = others;
}

-- they agree after the same change of a key of theirs
pub alike_change : (ks : List Bytes) (K L : Keyspace) (k : Bytes) (c : Change) → among ks k ≡ true → Alike ks K L → Alike ks (with_change k c K) (with_change k c L)
alike_change ks K L k c n a q m = alike_with ks K L k (settled c (held K k)) a q m ∙ ap (λ v. held (with_held L k (settled c v)) q) (a k n)

pub others_change : (K : Keyspace) (k q : Bytes) (c : Change) → same k q ≡ false → held (with_change k c K) q ≡ held K q
others_change K k q c e = held_other K k q (settled c (held K k)) e

pub apart : (s d q : Bytes) → among (s ∷ d ∷ []) q ≡ false → (same s q ≡ false) × (same d q ≡ false)
apart s d q n =
    let both : (same s q ≡ false) × ((same d q || false) ≡ false) = neither (same s q) (same d q || false) n in
    (both.0, (neither (same d q) false both.1).0)

-- ---- LMOVE and RPOPLPUSH

received_agree : (ks : List Bytes) (d : Bytes) (to : Side) (x : Bytes) (K L M N : Keyspace) (ys : Option (List Bytes)) → among ks d ≡ true → Alike ks K L → Alike ks M N
    → Agree ks (lists.received d to x K M ys) (lists.received d to x L N ys)
received_agree ks d to x K L M N None n a b = (refl, a)
received_agree ks d to x K L M N (Some ys) n a b = (refl, alike_change ks M N d (lists.stored (lists.given to x ys)) n b)

leaves_agree : (s d : Bytes) (from to : Side) (K L : Keyspace) (xs : List Bytes) → Alike (s ∷ d ∷ []) K L → Agree (s ∷ d ∷ []) (lists.leaves s d from to K xs) (lists.leaves s d from to L xs)
leaves_agree s d from to K L [] a = (refl, a)
leaves_agree s d from to K L (x ∷ rest) a =
    let c : Change = lists.stored (lists.taken from rest) in
    let b : Alike (s ∷ d ∷ []) (with_change s c K) (with_change s c L) = alike_change (s ∷ d ∷ []) K L s c (first_among s (d ∷ [])) a in
    subst (λ v. Agree (s ∷ d ∷ []) (lists.received d to x K (with_change s c K) (lists.elements (held (with_change s c K) d))) (lists.received d to x L (with_change s c L) (lists.elements v)))
    (b d (second_among s d))
    (received_agree (s ∷ d ∷ []) d to x K L (with_change s c K) (with_change s c L) (lists.elements (held (with_change s c K) d)) (second_among s d) a b)

sent_agree : (s d : Bytes) (from to : Side) (K L : Keyspace) (xs : Option (List Bytes)) → Alike (s ∷ d ∷ []) K L → Agree (s ∷ d ∷ []) (lists.sent s d from to K xs) (lists.sent s d from to L xs)
sent_agree s d from to K L None a = (refl, a)
sent_agree s d from to K L (Some xs) a = leaves_agree s d from to K L (lists.taken from xs) a

received_others : (d : Bytes) (to : Side) (x : Bytes) (K M : Keyspace) (ys : Option (List Bytes)) (q : Bytes) → same d q ≡ false → held M q ≡ held K q → held (lists.received d to x K M ys).1 q ≡ held K q
received_others d to x K M None q n e = refl
received_others d to x K M (Some ys) q n e = others_change M d q (lists.stored (lists.given to x ys)) n ∙ e

leaves_others : (s d : Bytes) (from to : Side) (K : Keyspace) (xs : List Bytes) (q : Bytes) → among (s ∷ d ∷ []) q ≡ false → held (lists.leaves s d from to K xs).1 q ≡ held K q
leaves_others s d from to K [] q n = refl
leaves_others s d from to K (x ∷ rest) q n =
    let c : Change = lists.stored (lists.taken from rest) in
    received_others d to x K (with_change s c K) (lists.elements (held (with_change s c K) d)) q (apart s d q n).1 (others_change K s q c (apart s d q n).0)

sent_others : (s d : Bytes) (from to : Side) (K : Keyspace) (xs : Option (List Bytes)) (q : Bytes) → among (s ∷ d ∷ []) q ≡ false → held (lists.sent s d from to K xs).1 q ≡ held K q
sent_others s d from to K None q n = refl
sent_others s d from to K (Some xs) q n = leaves_others s d from to K (lists.taken from xs) q n

lmove_looks : (s d : Bytes) (from to : Side) → LooksAt (s ∷ d ∷ []) (lists.lmove s d from to)
lmove_looks s d from to =
    looks_at (s ∷ d ∷ []) (lists.lmove s d from to)
    (λ K L a.
    subst (λ v. Agree (s ∷ d ∷ []) (lists.lmove s d from to K) (lists.sent s d from to L (lists.elements v))) (a s (first_among s (d ∷ [])))
    (sent_agree s d from to K L (lists.elements (held K s)) a))
    (λ K q n. sent_others s d from to K (lists.elements (held K s)) q n)

pub lmove_whole : (s d : Bytes) (from to : Side) (K : Keyspace) → does (changing (s ∷ d ∷ []) (lists.lmove s d from to)) K ≡ lists.lmove s d from to K
lmove_whole s d from to K = changing_whole (s ∷ d ∷ []) (lists.lmove s d from to) K (lmove_looks s d from to)

pub rpoplpush_whole : (s d : Bytes) (K : Keyspace) → does (changing (s ∷ d ∷ []) (lists.rpoplpush s d)) K ≡ lists.rpoplpush s d K
rpoplpush_whole s d K = lmove_whole s d Right Left K

-- ---- SMOVE

-- the two branches of the row, by a test that doesn't look at the keyspace
either_agree : (ks : List Bytes) (b : Bool) (m n m' n' : Meaning) → Agree ks m m' → Agree ks n n' → Agree ks (if b then m else n) (if b then m' else n')
either_agree ks true m n m' n' a b = a
either_agree ks false m n m' n' a b = b

either_keys : (ks : List Bytes) (b : Bool) (K M L N : Keyspace) → Alike ks K L → Alike ks M N → Alike ks (if b then K else M) (if b then L else N)
either_keys ks true K M L N a b = a
either_keys ks false K M L N a b = b

either_others : (b : Bool) (m n : Meaning) (q : Bytes) (v : Option Value) → held m.1 q ≡ v → held n.1 q ≡ v → held (if b then m else n).1 q ≡ v
either_others true m n q v e f = e
either_others false m n q v e f = f

either_held : (b : Bool) (K M : Keyspace) (q : Bytes) (v : Option Value) → held K q ≡ v → held M q ≡ v → held (if b then K else M) q ≡ v
either_held true K M q v e f = e
either_held false K M q v e f = f

joined_agree : (s d m : Bytes) (K L : Keyspace) (from : Members) (to : Option Members) → Alike (s ∷ d ∷ []) K L → Agree (s ∷ d ∷ []) (sets.joined s d m K from to) (sets.joined s d m L from to)
joined_agree s d m K L from None a = (refl, a)
joined_agree s d m K L from (Some to) a =
    let ks : List Bytes = s ∷ d ∷ [] in
    let less : Change = sets.stored (members.remove from m) in
    let more : Change = sets.stored (members.insert to m) in
    either_agree ks (members.contains from m) _ _ _ _ (
      refl,
      either_keys ks (same s d) K (with_change d more (with_change s less K)) L (with_change d more (with_change s less L)) a
          (alike_change ks (with_change s less K) (with_change s less L) d more (second_among s d) (alike_change ks K L s less (first_among s (d ∷ [])) a)),
    )
    (refl, a)

left_agree : (s d m : Bytes) (K L : Keyspace) (v : Option Value) → Alike (s ∷ d ∷ []) K L → Agree (s ∷ d ∷ []) (sets.left s d m K v) (sets.left s d m L v)
left_agree s d m K L None a = (refl, a)
left_agree s d m K L (Some (Value.Set from)) a =
    subst (λ v. Agree (s ∷ d ∷ []) (sets.joined s d m K from (sets.members_of (held K d))) (sets.joined s d m L from (sets.members_of v))) (a d (second_among s d))
    (joined_agree s d m K L from (sets.members_of (held K d)) a)
left_agree s d m K L (Some (Value.Str b)) a = (refl, a)
left_agree s d m K L (Some (Value.Elements b)) a = (refl, a)
left_agree s d m K L (Some (Value.Hash b)) a = (refl, a)

joined_others : (s d m : Bytes) (K : Keyspace) (from : Members) (to : Option Members) (q : Bytes) → among (s ∷ d ∷ []) q ≡ false → held (sets.joined s d m K from to).1 q ≡ held K q
joined_others s d m K from None q n = refl
joined_others s d m K from (Some to) q n =
    let less : Change = sets.stored (members.remove from m) in
    let more : Change = sets.stored (members.insert to m) in
    either_others (members.contains from m) _ _ q (held K q)
    (either_held (same s d) K (with_change d more (with_change s less K)) q (held K q) refl
    (others_change (with_change s less K) d q more (apart s d q n).1 ∙ others_change K s q less (apart s d q n).0))
    refl

left_others : (s d m : Bytes) (K : Keyspace) (v : Option Value) (q : Bytes) → among (s ∷ d ∷ []) q ≡ false → held (sets.left s d m K v).1 q ≡ held K q
left_others s d m K None q n = refl
left_others s d m K (Some (Value.Set from)) q n = joined_others s d m K from (sets.members_of (held K d)) q n
left_others s d m K (Some (Value.Str b)) q n = refl
left_others s d m K (Some (Value.Elements b)) q n = refl
left_others s d m K (Some (Value.Hash b)) q n = refl

smove_looks : (s d m : Bytes) → LooksAt (s ∷ d ∷ []) (sets.smove s d m)
smove_looks s d m =
    looks_at (s ∷ d ∷ []) (sets.smove s d m)
    (λ K L a. subst (λ v. Agree (s ∷ d ∷ []) (sets.smove s d m K) (sets.left s d m L v)) (a s (first_among s (d ∷ []))) (left_agree s d m K L (held K s) a))
    (λ K q n. left_others s d m K (held K s) q n)

pub smove_whole : (s d m : Bytes) (K : Keyspace) → does (changing (s ∷ d ∷ []) (sets.smove s d m)) K ≡ sets.smove s d m K
smove_whole s d m K = changing_whole (s ∷ d ∷ []) (sets.smove s d m) K (smove_looks s d m)
