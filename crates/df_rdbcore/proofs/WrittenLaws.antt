-- What is written is read: each written form is one of the grammar.
use Rattle.std.proofs.Common.{◌≡◌, ℕ, suc, ◌+◌, ◌/◌, ◌%◌, ◌^◌, ◌<◌, ◌≤◌, inl, inr, Bool, true, false, cond, List, [], ◌∷◌, ◌++◌, length, map, refl, sym, ap, subst, ◌∙◌, arith, append_assoc}
use Rattle.std.specs.Prelude.{Some, None, nat_lt}
use Rattle.std.specs.Int.{w32, w64, to_be_bytes, to_le_bytes}
use Rattle.std.specs.List.{AllByRecursion, flat_map, filter_map}
use Rattle.std.specs.FinMap as fin
use Rattle.std.proofs.lemmas.Bool.{cases_lt}
use Rattle.df_model.specs.Values.{Bytes, Value, Members}
use Rattle.df_model.specs.Framing.{IsWord}
use Rattle.df_model.specs.Members as members
use Rattle.df_limits.specs.Limits.{IsWithin}
use Rattle.df_rdbcore.specs.Crc.{crc, crc_from}
use Rattle.df_rdbcore.specs.Texts.{IsLength, IsText}
use Rattle.df_rdbcore.specs.Parts.{Both, InTurn, Counted, Pair, Entry, IsValue, IsPart}
use Rattle.df_rdbcore.specs.Files.{summed, IsFile}
use Rattle.df_rdbcore.specs.Written.{IsCounted, short, written_text, written_pair, kind_byte, written_value, written_entry, written_end}
use Rattle.df_rdbcore.specs.Laws.{ShortIsLength, ShortIsShortest, WrittenSpells, written_body, AreWithin}
use Rattle.df_rdbcore.proofs.CrcLaws.{crc_append}
use Rattle.df_rdbcore.proofs.MapLaws.{refilled, keys_once, each_entry}

on_true : {A : Type 0} (t : Bool) (x y : A) → t ≡ true → cond t x y ≡ x
on_true t x y e = ap (λ b. cond b x y) e

on_false : {A : Type 0} (t : Bool) (x y : A) → t ≡ false → cond t x y ≡ y
on_false t x y e = ap (λ b. cond b x y) e

is_below : (n k : ℕ) → n < k → nat_lt n k ≡ true
is_below n k h = grind arith

is_above : (n k : ℕ) → k ≤ n → nat_lt n k ≡ false
is_above n k h = grind arith

-- ---- lengths

pub short_is_length : ShortIsLength
short_is_length n fits = elim (cases_lt n (2 ^ 6)) [
  | inl a ↦ IsLength.Six a (on_true (nat_lt n (2 ^ 6)) _ _ (is_below n (2 ^ 6) a))
  | inr a ↦ elim (cases_lt n (2 ^ 14)) [
    | inl b ↦ IsLength.Fourteen b (on_false (nat_lt n (2 ^ 6)) _ _ (is_above n (2 ^ 6) a) ∙ on_true (nat_lt n (2 ^ 14)) _ _ (is_below n (2 ^ 14) b))
    | inr b ↦ elim (cases_lt n (2 ^ 32)) [
      | inl d ↦ IsLength.ThirtyTwo d (on_false (nat_lt n (2 ^ 6)) _ _ (is_above n (2 ^ 6) a) ∙ on_false (nat_lt n (2 ^ 14)) _ _ (is_above n (2 ^ 14) b) ∙ on_true (nat_lt n (2 ^ 32)) _ _ (is_below n (2 ^ 32) d))
      | inr d ↦ IsLength.SixtyFour fits (on_false (nat_lt n (2 ^ 6)) _ _ (is_above n (2 ^ 6) a) ∙ on_false (nat_lt n (2 ^ 14)) _ _ (is_above n (2 ^ 14) b) ∙ on_false (nat_lt n (2 ^ 32)) _ _ (is_above n (2 ^ 32) d))
    ]
  ]
]

-- how many bytes the shortest form has, by the three tests
long : Bool → Bool → Bool → ℕ
long a b d = cond a 1 (cond b 2 (cond d 5 9))

chosen_long : (a b d : Bool) (w x y z : Bytes) → length w ≡ 1 → length x ≡ 2 → length y ≡ 5 → length z ≡ 9 → length (cond a w (cond b x (cond d y z))) ≡ long a b d
unfolding long
chosen_long true b d w x y z p q r s = p
chosen_long false true d w x y z p q r s = q
chosen_long false false true w x y z p q r s = r
chosen_long false false false w x y z p q r s = s

short_long : (n : ℕ) → length (short n) ≡ long (nat_lt n (2 ^ 6)) (nat_lt n (2 ^ 14)) (nat_lt n (2 ^ 32))
short_long n = chosen_long (nat_lt n (2 ^ 6)) (nat_lt n (2 ^ 14)) (nat_lt n (2 ^ 32)) _ _ _ _ refl refl refl refl

at_most_9 : (a b d : Bool) → long a b d ≤ 9
unfolding long
at_most_9 true b d = omega arith
at_most_9 false true d = omega arith
at_most_9 false false true = omega arith
at_most_9 false false false = omega arith

at_most_5 : (a b : Bool) → long a b true ≤ 5
unfolding long
at_most_5 true b = omega arith
at_most_5 false true = omega arith
at_most_5 false false = omega arith

at_most_2 : (a d : Bool) → long a true d ≤ 2
unfolding long
at_most_2 true d = omega arith
at_most_2 false d = omega arith

one : (b d : Bool) → long true b d ≤ 1
unfolding long
one b d = omega arith

along : (k m : ℕ) (form bytes : Bytes) → bytes ≡ form → length form ≡ m → k ≤ m → k ≤ length bytes
along k m form bytes e l h = let l' : length bytes ≡ m = ap length e ∙ l in omega arith

pub short_is_shortest : ShortIsShortest
short_is_shortest n bytes (IsLength.Six h e) =
    along (length (short n)) 1 (n ∷ []) bytes e refl
    (subst (λ k. k ≤ 1) (sym (short_long n ∙ ap (λ t. long t (nat_lt n (2 ^ 14)) (nat_lt n (2 ^ 32))) (is_below n (2 ^ 6) h))) (one (nat_lt n (2 ^ 14)) (nat_lt n (2 ^ 32))))
short_is_shortest n bytes (IsLength.Fourteen h e) =
    along (length (short n)) 2 ((64 + n / 256) ∷ (n % 256) ∷ []) bytes e refl
    (subst (λ k. k ≤ 2) (sym (short_long n ∙ ap (λ t. long (nat_lt n (2 ^ 6)) t (nat_lt n (2 ^ 32))) (is_below n (2 ^ 14) h))) (at_most_2 (nat_lt n (2 ^ 6)) (nat_lt n (2 ^ 32))))
short_is_shortest n bytes (IsLength.ThirtyTwo h e) =
    along (length (short n)) 5 (0x80 ∷ to_be_bytes w32 n) bytes e refl
    (subst (λ k. k ≤ 5) (sym (short_long n ∙ ap (long (nat_lt n (2 ^ 6)) (nat_lt n (2 ^ 14))) (is_below n (2 ^ 32) h))) (at_most_5 (nat_lt n (2 ^ 6)) (nat_lt n (2 ^ 14))))
short_is_shortest n bytes (IsLength.SixtyFour h e) =
    along (length (short n)) 9 (0x81 ∷ to_be_bytes w64 n) bytes e refl
    (subst (λ k. k ≤ 9) (sym (short_long n)) (at_most_9 (nat_lt n (2 ^ 6)) (nat_lt n (2 ^ 14)) (nat_lt n (2 ^ 32))))

-- ---- strings

pub text_written : (text : Bytes) → IsWord text → IsText (written_text text) text
text_written text w =
    let fits : length text < 2 ^ 64 = omega (arith, w) in
    IsText.Plain (short (length text)) (short_is_length (length text) fits) w refl

pub pair_written : (pair : Pair) → IsWord pair.0 × IsWord pair.1 → Both IsText IsText (written_pair pair) pair
pair_written pair w = record {
  first = written_text pair.0;
  rest = written_text pair.1;
  first_is = text_written pair.0 w.0;
  rest_is = text_written pair.1 w.1;
  whole = refl;
}

in_turn : {A : Type 0} (P : Bytes → A → Type 0) (f : A → Bytes) (Q : A → Type 0) → ((a : A) → Q a → P (f a) a) → (xs : List A) → AllByRecursion Q xs → InTurn P (flat_map f xs) xs
in_turn P f Q each [] all = refl
in_turn P f Q each (x ∷ xs) all = (f x, flat_map f xs, each x all.0, in_turn P f Q each xs all.1, refl)

counted : {A : Type 0} (P : Bytes → A → Type 0) (f : A → Bytes) (Q : A → Type 0) → ((a : A) → Q a → P (f a) a) → (xs : List A) → AllByRecursion Q xs → length xs < 2 ^ 64 →
    Counted P (short (length xs) ++ flat_map f xs) xs
counted P f Q each xs all fits = record {
  first = short (length xs);
  rest = flat_map f xs;
  first_is = short_is_length (length xs) fits;
  rest_is = in_turn P f Q each xs all;
  whole = refl;
}

-- ---- values

nothing_beside : (es : List (Bytes × Unit {0})) → map (λ text. (text, tt)) (map (λ e. e.0) es) ≡ es
nothing_beside [] = refl
nothing_beside (e ∷ es) = ap (λ z. e ∷ z) (nothing_beside es)

all_firsts : (P : Bytes → Type 0) (es : List (Bytes × Unit {0})) → AllByRecursion (λ e. P e.0) es → AllByRecursion P (map (λ e. e.0) es)
all_firsts P [] all = tt
all_firsts P (e ∷ es) all = (all.0, all_firsts P es all.1)

length_firsts : (es : List (Bytes × Unit {0})) → length (map (λ e. e.0) es) ≡ length es
length_firsts [] = refl
length_firsts (e ∷ es) = ap suc (length_firsts es)

set_written : (m : Members) → IsWithin (Value.Set m) → IsCounted (Value.Set m) → IsValue 2 (written_value (Value.Set m)) (Value.Set m)
set_written m within fits =
    let len : members.len m ≡ length (members.items m) = fin.len-entries m ∙ sym (length_firsts (fin.entries m)) in
    let all : AllByRecursion IsWord (members.items m) = all_firsts IsWord (fin.entries m) (each_entry (λ member there. IsWord member) m within.1) in
    let fits' : length (members.items m) < 2 ^ 64 = subst (λ k. k < 2 ^ 64) len fits in
    let some : 0 < length (members.items m) = subst (λ k. 0 < k) len within.0 in
    let c : Counted IsText (short (length (members.items m)) ++ flat_map written_text (members.items m)) (members.items m) = counted IsText written_text IsWord text_written (members.items m) all fits' in
    let c' : Counted IsText (written_value (Value.Set m)) (members.items m) = subst (λ k. Counted IsText (short k ++ flat_map written_text (members.items m)) (members.items m)) (sym len) c in
    IsValue.Set (members.items m) refl c' some (keys_once m)
    (ap Value.Set (refilled m ∙ ap (λ es. fin.from_entries es) (sym (nothing_beside (fin.entries m)))))

hash_written : (m : fin.FinMap _ Bytes) → IsWithin (Value.Hash m) → IsCounted (Value.Hash m) → IsValue 4 (written_value (Value.Hash m)) (Value.Hash m)
hash_written m within fits =
    let len : fin.len m ≡ length (fin.entries m) = fin.len-entries m in
    let all : AllByRecursion (λ e. IsWord e.0 × IsWord e.1) (fin.entries m) = each_entry (λ field bytes. IsWord field × IsWord bytes) m within.1 in
    let fits' : length (fin.entries m) < 2 ^ 64 = subst (λ k. k < 2 ^ 64) len fits in
    let some : 0 < length (fin.entries m) = subst (λ k. 0 < k) len within.0 in
    let c : Counted (Both IsText IsText) (short (length (fin.entries m)) ++ flat_map written_pair (fin.entries m)) (fin.entries m) =
    counted (Both IsText IsText) written_pair (λ e. IsWord e.0 × IsWord e.1) pair_written (fin.entries m) all fits' in
    let c' : Counted (Both IsText IsText) (written_value (Value.Hash m)) (fin.entries m) = subst (λ k. Counted (Both IsText IsText) (short k ++ flat_map written_pair (fin.entries m)) (fin.entries m)) (sym len) c in
    IsValue.Hash (fin.entries m) refl c' some (keys_once m) (ap Value.Hash (refilled m))

value_written : (value : Value) → IsWithin value → IsCounted value → IsValue (kind_byte value) (written_value value) value
value_written (Value.Str text) within fits = IsValue.Str text refl (text_written text within) refl
value_written (Value.Elements texts) within fits = IsValue.Elements texts refl (counted IsText written_text IsWord text_written texts within.1 fits) within.0 refl
value_written (Value.Set texts) within fits = set_written texts within fits
value_written (Value.Hash pairs) within fits = hash_written pairs within fits

-- ---- files

abbrev Fine : Entry → Type 0
Fine entry = IsWord entry.0 × IsWithin entry.1 × IsCounted entry.1

abbrev written : Entry → Bytes
written entry = written_entry entry.0 entry.1

part_written : (entry : Entry) → Fine entry → IsPart (written entry) (Some entry)
part_written entry fine =
    IsPart.Holds (kind_byte entry.1) (written_text entry.0 ++ written_value entry.1) entry
    (record { first = written_text entry.0; rest = written_value entry.1; first_is = text_written entry.0 fine.0; rest_is = value_written entry.1 fine.1 fine.2; whole = refl })
    refl refl

parts_written : (entries : List Entry) → AreWithin entries → InTurn IsPart (flat_map written entries) (map Some entries)
parts_written [] all = refl
parts_written (e ∷ es) all = (written e, flat_map written es, part_written e all.0, parts_written es all.1, refl)

all_there : (entries : List Entry) → entries ≡ filter_map (λ added. added) (map Some entries)
all_there [] = refl
all_there (e ∷ es) = ap (λ z. e ∷ z) (all_there es)

database_0 : IsPart (0xFE ∷ 0 ∷ []) None
database_0 = IsPart.Database (0 ∷ []) (IsLength.Six (omega arith) refl) refl refl

pub written_spells : WrittenSpells
written_spells entries all once =
    let body : Bytes = 0xFE ∷ 0 ∷ flat_map written entries in
    let sum : ℕ = crc_from (crc (written_body entries)) (0xFF ∷ []) in
    let sum_is : sum ≡ crc (summed 9 body) = sym (crc_append 0 (written_body entries) (0xFF ∷ [])) in
    let file : IsFile (written_body entries ++ written_end (crc (written_body entries))) entries = record {
      version = 9;
      from_5 = omega arith;
      to_12 = omega arith;
      body = body;
      parts = None ∷ map Some entries;
      parts_are = (0xFE ∷ 0 ∷ [], flat_map written entries, database_0, parts_written entries all, refl);
      entries_are = all_there entries;
      sum = sum;
      sum_is = inr sum_is;
      whole = sym (append_assoc (written_body entries) (0xFF ∷ []) (to_le_bytes w64 sum));
    } in
    record { entries = entries; is_file = file; once = once; keyspace = refl }
