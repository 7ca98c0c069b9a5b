-- Where reading a file stops.
use Rattle.std.proofs.Common.{◌≡◌, ◌≢◌, ℕ, zero, suc, ◌+◌, ◌/◌, ◌%◌, ◌^◌, ◌<◌, ◌≤◌, Bool, true, false, cond, inl, inr, List, [], ◌∷◌, ◌++◌, length, take, drop, get_or, refl, sym, ap, subst, ◌∙◌, arith, append_assoc, length-append}
use Rattle.std.specs.Prelude.{◌⊎◌, Option, Some, codes, bit_xor, ◌==◌}
use Rattle.std.specs.Int.{w64, to_le_bytes, from_le_bytes}
use Rattle.std.proofs.lemmas.Bool.{cases_order}
use Rattle.std.proofs.lemmas.List.Elements.{filter_map-append}
use Rattle.std.proofs.lemmas.Nat.{xor_lt, from_le_bytes-to_le_bytes_8}
use Rattle.df_model.specs.Values.{Bytes}
use Rattle.df_model.specs.Keyspace.{Keyspace}
use Rattle.df_rdbcore.specs.Crc.{POLYNOMIAL, shifted, shifts, with_byte, crc_from, crc}
use Rattle.df_rdbcore.specs.Parts.{Entry, IsPart, NoneTwice, firsts}
use Rattle.df_rdbcore.specs.Files.{Spells, head, summed}
use Rattle.df_rdbcore.specs.Reading.{place_of}
use Rattle.df_rdbcore.specs.declared.fault.LoadFault.{LoadFault}
use Rattle.df_rdbcore.specs.declared.fault.LoadFault.TheVariants as faults
use Rattle.df_rdbcore.proofs.TextLaws.{append_same}
use Rattle.df_rdbcore.proofs.PartLaws.{part_one, in_turn_one}
use Rattle.df_rdbload.specs.Stops.{IsIn}
use Rattle.df_rdbload.specs.FileStops.{PartStops, SumStops, HeadStops, Agrees, Begun, FileStops, added, digits}
use Rattle.df_rdbexact.specs.Laws.{AreBytes, StopsAtWideSum, StopsNowhere, StopsOnce}
use Rattle.df_rdbexact.proofs.StopLaws.{Further, further, not_before, firsts_append, same_front, moved}
use Rattle.df_rdbexact.proofs.PartLaws.{part_fault, part_excludes, end_excludes, part_no_end}

-- ---- the head

agrees_front : (text more form : Bytes) → Agrees (text ++ more) form → Agrees text form
agrees_front [] more form a = tt
agrees_front (x ∷ text) more [] a = tt
agrees_front (x ∷ text) more (b ∷ form) a = (a.0, agrees_front text more form a.1)

agrees_itself : (text more : Bytes) → Agrees text (text ++ more)
agrees_itself [] more = tt
agrees_itself (x ∷ text) more = (refl, agrees_itself text more)

head_excludes : (bytes : Bytes) (size at : ℕ) (fault : LoadFault) (b : Begun bytes) → HeadStops size at bytes fault → ⊥
head_excludes bytes size at fault b (HeadStops.Magic not f) = not (subst (Agrees (codes "REDIS")) (sym b.whole) (agrees_itself (codes "REDIS") (digits b.version ++ (b.body ++ b.rest))))
head_excludes bytes size at fault b (HeadStops.Version a not f) = not b.version b.is_version (subst (Agrees (head b.version)) (sym b.whole) (agrees_itself (head b.version) (b.body ++ b.rest)))
head_excludes bytes size at fault b (HeadStops.Cut version is a short f) =
    let long = ap length b.whole in
    let both = length-append (head b.version) (b.body ++ b.rest) in
    omega (arith, short, long, both)

head_fault : (size at : ℕ) (bytes : Bytes) (f g : LoadFault) → HeadStops size at bytes f → HeadStops size at bytes g → f ≡ g
head_fault size at bytes f g (HeadStops.Magic n p) (HeadStops.Magic m q) = p ∙ sym q
head_fault size at bytes f g (HeadStops.Magic n p) (HeadStops.Version a m q) = absurd (n a)
head_fault size at bytes f g (HeadStops.Magic n p) (HeadStops.Cut version is a short q) = absurd (n (agrees_front (codes "REDIS") (digits version) bytes a))
head_fault size at bytes f g (HeadStops.Version a n p) (HeadStops.Magic m q) = absurd (m a)
head_fault size at bytes f g (HeadStops.Version a n p) (HeadStops.Version b m q) = p ∙ sym q
head_fault size at bytes f g (HeadStops.Version a n p) (HeadStops.Cut version is b short q) = absurd (n version is b)
head_fault size at bytes f g (HeadStops.Cut version is a short p) (HeadStops.Magic m q) = absurd (m (agrees_front (codes "REDIS") (digits version) bytes a))
head_fault size at bytes f g (HeadStops.Cut version is a short p) (HeadStops.Version b m q) = absurd (m version is a)
head_fault size at bytes f g (HeadStops.Cut version is a short p) (HeadStops.Cut version' is' b short' q) = p ∙ sym q

-- ---- two readings of the same parts

behind_head : (bytes : Bytes) (b : Begun bytes) → drop 9 bytes ≡ b.body ++ b.rest
behind_head bytes b = ap (drop 9) b.whole

bodies : (bytes : Bytes) (b c : Begun bytes) → b.body ++ b.rest ≡ c.body ++ c.rest
bodies bytes b c = sym (behind_head bytes b) ∙ behind_head bytes c

same_version : (bytes : Bytes) (b c : Begun bytes) → b.version ≡ c.version
same_version bytes b c =
    let tens : 48 + b.version / 10 ≡ 48 + c.version / 10 = ap (λ z. get_or z 7 0) (sym b.whole ∙ c.whole) in
    let ones : 48 + b.version % 10 ≡ 48 + c.version % 10 = ap (λ z. get_or z 8 0) (sym b.whole ∙ c.whole) in
    omega (arith, tens, ones)

record Same {bytes : Bytes} (b c : Begun bytes) : Type 0 where
  parts : b.parts ≡ c.parts
  rest : b.rest ≡ c.rest
  body : b.body ≡ c.body

same_parts : (bytes : Bytes) (b c : Begun bytes) → length b.parts ≡ length c.parts → Same b c
same_parts bytes b c long =
    let e : b.body ++ b.rest ≡ c.body ++ c.rest = bodies bytes b c in
    let r : (b.parts ≡ c.parts) × (b.rest ≡ c.rest) = in_turn_one IsPart part_one b.body c.body b.rest c.rest b.parts c.parts long b.parts_are c.parts_are e in
    record { parts = r.0; rest = r.1; body = (append_same b.body c.body b.rest c.rest (same_front b.body c.body b.rest c.rest e r.1) e).0 }

-- the key of a part is none of those before it
new_key : (us : List (Option Entry)) (a : Option Entry) (others : List (Option Entry)) → NoneTwice (firsts (added (us ++ a ∷ others))) → (entry : Entry) → a ≡ Some entry → IsIn entry.0 (firsts (added us)) → ⊥
new_key us a others once entry is =
    let all : firsts (added (us ++ a ∷ others)) ≡ firsts (added us) ++ entry.0 ∷ firsts (added others) =
    ap (λ z. firsts (added (us ++ z ∷ others))) is ∙ ap firsts (filter_map-append (λ z. z) us (Some entry ∷ others)) ∙ firsts_append (added us) entry (added others) in
    not_before (firsts (added us)) entry.0 (firsts (added others)) (subst NoneTwice all once)

more_parts : (bytes : Bytes) (b c : Begun bytes) → length b.parts < length c.parts → Further IsPart b.parts c.parts b.rest
more_parts bytes b c lt = further IsPart part_one b.body c.body b.rest c.rest b.parts c.parts lt b.parts_are c.parts_are (bodies bytes b c)

-- no stop, and no end, stands before a part that was read
past_part : (bytes : Bytes) (b c : Begun bytes) (size at : ℕ) (fault : LoadFault) → length b.parts < length c.parts → PartStops (firsts (added b.parts)) size at b.rest fault → ⊥
past_part bytes b c size at fault lt s =
    let f : Further IsPart b.parts c.parts b.rest = more_parts bytes b c lt in
    part_excludes (firsts (added b.parts)) size at b.rest f.form f.tail f.next fault f.is (new_key b.parts f.next f.others (subst (λ z. NoneTwice (firsts (added z))) f.longer c.once)) f.whole s

past_end : (bytes : Bytes) (b c : Begun bytes) (more : Bytes) → length b.parts < length c.parts → b.rest ≡ 255 ∷ more → ⊥
past_end bytes b c more lt e =
    let f : Further IsPart b.parts c.parts b.rest = more_parts bytes b c lt in
    part_no_end b.rest f.form f.tail more f.next f.is f.whole e

-- a stop at a part, and the end
part_or_end : (bytes : Bytes) (b c : Begun bytes) (more : Bytes) (size at : ℕ) (fault : LoadFault) → PartStops (firsts (added b.parts)) size at b.rest fault → c.rest ≡ 255 ∷ more → ⊥
part_or_end bytes b c more size at fault s e = elim (cases_order (length b.parts) (length c.parts)) [
  | inl long ↦ let same : Same b c = same_parts bytes b c long in end_excludes (firsts (added b.parts)) size at b.rest more fault (same.rest ∙ e) s
  | inr (inl lt) ↦ past_part bytes b c size at fault lt s
  | inr (inr lt) ↦ past_end bytes c b more lt e
]

two_parts : (bytes : Bytes) (b c : Begun bytes) (size : ℕ) (f g : LoadFault) → PartStops (firsts (added b.parts)) size (9 + length b.body) b.rest f → PartStops (firsts (added c.parts)) size (9 + length c.body) c.rest g → f ≡ g
two_parts bytes b c size f g s t = elim (cases_order (length b.parts) (length c.parts)) [
  | inl long ↦
      let same : Same b c = same_parts bytes b c long in
      let there : PartStops (firsts (added c.parts)) size (9 + length b.body) b.rest f = subst (λ z. PartStops (firsts (added z)) size (9 + length b.body) b.rest f) same.parts s in
      part_fault (firsts (added c.parts)) size (9 + length c.body) c.rest f g (moved (PartStops (firsts (added c.parts))) size 9 (length b.body) (length c.body) b.rest c.rest f (ap length same.body) same.rest there) t
  | inr (inl lt) ↦ absurd (past_part bytes b c size (9 + length b.body) f lt s)
  | inr (inr lt) ↦ absurd (past_part bytes c b size (9 + length c.body) g lt t)
]

-- ---- the end

-- two ends are the same one
one_end : (bytes : Bytes) (b c : Begun bytes) (x y : Bytes) → b.rest ≡ 255 ∷ x → c.rest ≡ 255 ∷ y → Same b c
one_end bytes b c x y e i = elim (cases_order (length b.parts) (length c.parts)) [
  | inl long ↦ same_parts bytes b c long
  | inr (inl lt) ↦ absurd (past_end bytes b c x lt e)
  | inr (inr lt) ↦ absurd (past_end bytes c b y lt i)
]

good_or_wrong : (stored stored' computed : ℕ) (rest : Bytes) → stored ≡ from_le_bytes w64 (take 8 rest) → stored' ≡ from_le_bytes w64 (take 8 rest) → stored ≢ 0 → stored ≢ computed → (stored' ≡ 0) ⊎ (stored' ≡ computed) → ⊥
good_or_wrong stored stored' computed rest p q not0 isnt (inl e) = not0 (p ∙ sym q ∙ e)
good_or_wrong stored stored' computed rest p q not0 isnt (inr e) = isnt (p ∙ sym q ∙ e)

sum_fault : (computed size at : ℕ) (rest : Bytes) (f g : LoadFault) → SumStops computed size at rest f → SumStops computed size at rest g → f ≡ g
sum_fault computed size at rest f g (SumStops.Cut s p) (SumStops.Cut t q) = p ∙ sym q
sum_fault computed size at rest f g (SumStops.Cut s p) (SumStops.Wrong stored l i n m q) = absurd (omega (arith, s, l))
sum_fault computed size at rest f g (SumStops.Cut s p) (SumStops.After stored l i n q) = absurd (omega (arith, s, l))
sum_fault computed size at rest f g (SumStops.Wrong stored l i n m p) (SumStops.Cut s q) = absurd (omega (arith, s, l))
sum_fault computed size at rest f g (SumStops.Wrong stored l i n m p) (SumStops.Wrong stored' l' i' n' m' q) =
    let same : stored ≡ stored' = i ∙ sym i' in
    p ∙ ap (λ z. faults.BadChecksum z computed (place_of at)) same ∙ sym q
sum_fault computed size at rest f g (SumStops.Wrong stored l i n m p) (SumStops.After stored' l' i' good q) = absurd (good_or_wrong stored stored' computed rest i i' n m good)
sum_fault computed size at rest f g (SumStops.After stored l i good p) (SumStops.Cut s q) = absurd (omega (arith, s, l))
sum_fault computed size at rest f g (SumStops.After stored l i good p) (SumStops.Wrong stored' l' i' n m q) = absurd (good_or_wrong stored' stored computed rest i' i n m good)
sum_fault computed size at rest f g (SumStops.After stored l i good p) (SumStops.After stored' l' i' good' q) = p ∙ sym q

two_ends : (bytes : Bytes) (b c : Begun bytes) (x y : Bytes) (f g : LoadFault) → b.rest ≡ 255 ∷ x → c.rest ≡ 255 ∷ y → SumStops (crc (summed b.version b.body)) (length bytes) (10 + length b.body) x f
    → SumStops (crc (summed c.version c.body)) (length bytes) (10 + length c.body) y g → f ≡ g
two_ends bytes b c x y f g e i s t =
    let same : Same b c = one_end bytes b c x y e i in
    let behind : x ≡ y = ap (drop 1) (sym e ∙ same.rest ∙ i) in
    let v : b.version ≡ c.version = same_version bytes b c in
    let s1 : SumStops (crc (summed c.version b.body)) (length bytes) (10 + length b.body) x f = subst (λ k. SumStops (crc (summed k b.body)) (length bytes) (10 + length b.body) x f) v s in
    let s2 : SumStops (crc (summed c.version c.body)) (length bytes) (10 + length c.body) x f = subst (λ k. SumStops (crc (summed c.version k)) (length bytes) (10 + length k) x f) same.body s1 in
    sum_fault (crc (summed c.version c.body)) (length bytes) (10 + length c.body) y f g (subst (λ k. SumStops (crc (summed c.version c.body)) (length bytes) (10 + length c.body) k f) behind s2) t

pub stops_once : StopsOnce
stops_once bytes f g (FileStops.Head h) (FileStops.Head k) = head_fault (length bytes) 0 bytes f g h k
stops_once bytes f g (FileStops.Head h) (FileStops.Part b s) = absurd (head_excludes bytes (length bytes) 0 f b h)
stops_once bytes f g (FileStops.Head h) (FileStops.End b x e s) = absurd (head_excludes bytes (length bytes) 0 f b h)
stops_once bytes f g (FileStops.Part b s) (FileStops.Head h) = absurd (head_excludes bytes (length bytes) 0 g b h)
stops_once bytes f g (FileStops.Part b s) (FileStops.Part c t) = two_parts bytes b c (length bytes) f g s t
stops_once bytes f g (FileStops.Part b s) (FileStops.End c x e t) = absurd (part_or_end bytes b c x (length bytes) (9 + length b.body) f s e)
stops_once bytes f g (FileStops.End b x e s) (FileStops.Head h) = absurd (head_excludes bytes (length bytes) 0 g b h)
stops_once bytes f g (FileStops.End b x e s) (FileStops.Part c t) = absurd (part_or_end bytes c b x (length bytes) (9 + length c.body) g t e)
stops_once bytes f g (FileStops.End b x e s) (FileStops.End c y i t) = two_ends bytes b c x y f g e i s t

-- ---- files

-- of bytes a sum has 64 bits
halved : (t : Bool) (r : ℕ) → r < 2 ^ 64 → cond t (r / 2) (bit_xor (r / 2) POLYNOMIAL) < 2 ^ 64
halved true r h = omega arith
halved false r h = let half : r / 2 < 2 ^ 64 = omega arith in let p : POLYNOMIAL < 2 ^ 64 = omega arith in xor_lt 64 (r / 2) POLYNOMIAL half p

shifts_fit : (n r : ℕ) → r < 2 ^ 64 → shifts n r < 2 ^ 64
unfolding shifts
shifts_fit zero r h = h
shifts_fit (suc n) r h = shifts_fit n (shifted r) (halved (r % 2 == 0) r h)

byte_fits : (r b : ℕ) → r < 2 ^ 64 → b < 256 → with_byte r b < 2 ^ 64
unfolding with_byte
byte_fits r b h small = let wide : b < 2 ^ 64 = omega (arith, small) in shifts_fit 8 (bit_xor r b) (xor_lt 64 r b h wide)

sum_fits : (r : ℕ) (bytes : Bytes) → r < 2 ^ 64 → AreBytes bytes → crc_from r bytes < 2 ^ 64
sum_fits r [] h all = h
sum_fits r (b ∷ bytes) h all = sum_fits (with_byte r b) bytes (byte_fits r b h all.0) all.1

front_bytes : (xs ys : Bytes) → AreBytes (xs ++ ys) → AreBytes xs
front_bytes [] ys all = tt
front_bytes (x ∷ xs) ys all = (all.0, front_bytes xs ys all.1)

-- a sum of 64 bits is read back
wrong_only : (computed sum stored : ℕ) (rest : Bytes) → computed < 2 ^ 64 → (sum ≡ 0) ⊎ (sum ≡ computed) → rest ≡ to_le_bytes w64 sum → stored ≡ from_le_bytes w64 (take 8 rest) → stored ≢ 0 → stored ≢ computed → ⊥
wrong_only computed sum stored rest fits (inl z) e i not0 isnt = not0 (i ∙ ap (λ k. from_le_bytes w64 (take 8 k)) (e ∙ ap (to_le_bytes w64) z))
wrong_only computed sum stored rest fits (inr z) e i not0 isnt = isnt (i ∙ ap (λ k. from_le_bytes w64 (take 8 k)) (e ∙ ap (to_le_bytes w64) z) ∙ from_le_bytes-to_le_bytes_8 computed fits)

-- of a file's sum no fault is told but one that needs more bits
abbrev TooWide : ℕ → LoadFault → Type 0
TooWide computed fault = (stored : ℕ) × (at : ℕ) × (fault ≡ faults.BadChecksum stored computed at) × (2 ^ 64 ≤ computed)

sum_only : (computed size at sum : ℕ) (rest : Bytes) (fault : LoadFault) → (sum ≡ 0) ⊎ (sum ≡ computed) → rest ≡ to_le_bytes w64 sum → SumStops computed size at rest fault → TooWide computed fault
sum_only computed size at sum rest fault good e (SumStops.Cut short f) = let long = ap length e in absurd (omega (arith, long, short))
sum_only computed size at sum rest fault good e (SumStops.After stored long i g f) = let all = ap length e in absurd (omega (arith, long, all))
sum_only computed size at sum rest fault good e (SumStops.Wrong stored l i not0 isnt f) = elim (cases_order computed (2 ^ 64)) [
  | inl same ↦ (stored, place_of at, f, omega (arith, same))
  | inr (inl fits) ↦ absurd (wrong_only computed sum stored rest fits good e i not0 isnt)
  | inr (inr wide) ↦ (stored, place_of at, f, omega (arith, wide))
]

behind_body : (version : ℕ) (body end : Bytes) → summed version body ++ end ≡ head version ++ (body ++ 255 ∷ end)
behind_body version body end = ap (λ z. head version ++ z) (append_assoc body (255 ∷ []) end)

abbrev its_sum : (bytes : Bytes) (K : Keyspace) → Spells bytes K → ℕ
its_sum bytes K sp = crc (summed sp.is_file.version sp.is_file.body)

only_at_sum : (bytes : Bytes) (K : Keyspace) (fault : LoadFault) (sp : Spells bytes K) → FileStops bytes fault → TooWide (its_sum bytes K sp) fault
only_at_sum bytes K fault sp s =
    let p = sp.is_file in
    let c : Begun bytes = record {
      version = p.version;
      is_version = (p.from_5, p.to_12);
      body = p.body;
      parts = p.parts;
      parts_are = p.parts_are;
      once = subst (λ z. NoneTwice (firsts z)) p.entries_are sp.once;
      rest = 255 ∷ to_le_bytes w64 p.sum;
      whole = p.whole ∙ behind_body p.version p.body (to_le_bytes w64 p.sum);
    } in
    elim s [
      | FileStops.Head h ↦ absurd (head_excludes bytes (length bytes) 0 fault c h)
      | FileStops.Part b t ↦ absurd (part_or_end bytes b c (to_le_bytes w64 p.sum) (length bytes) (9 + length b.body) fault t refl)
      | FileStops.End b x e t ↦
          let same : Same b c = one_end bytes b c x (to_le_bytes w64 p.sum) e refl in
          let v : b.version ≡ p.version = same_version bytes b c in
          let computed : crc (summed b.version b.body) ≡ crc (summed p.version p.body) = ap (λ k. crc (summed k b.body)) v ∙ ap (λ k. crc (summed p.version k)) same.body in
          sum_only (crc (summed p.version p.body)) (length bytes) (10 + length b.body) p.sum x fault p.sum_is (ap (drop 1) (sym e ∙ same.rest)) (subst (λ k. SumStops k (length bytes) (10 + length b.body) x fault) computed t)
    ]

pub stops_at_sum : StopsAtWideSum
stops_at_sum bytes K fault sp s =
    let w : TooWide (its_sum bytes K sp) fault = only_at_sum bytes K fault sp s in
    (w.0, its_sum bytes K sp, w.1, w.2, w.3)

pub stops_nowhere : StopsNowhere
stops_nowhere bytes K fault all sp s =
    let p = sp.is_file in
    let fits : its_sum bytes K sp < 2 ^ 64 = sum_fits 0 (summed p.version p.body) (omega arith) (front_bytes (summed p.version p.body) (to_le_bytes w64 p.sum) (subst AreBytes p.whole all)) in
    let wide : 2 ^ 64 ≤ its_sum bytes K sp = (only_at_sum bytes K fault sp s).3 in
    omega (arith, fits, wide)
