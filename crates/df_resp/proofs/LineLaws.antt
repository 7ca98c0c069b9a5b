-- What reading a fixed text, so many bytes, and a line with a number reads.
use Rattle.std.proofs.Common.{◌≡◌, ℕ, suc, ◌+◌, ◌-◌, ◌*◌, ◌/◌, ◌%◌, ◌^◌, ◌<◌, ◌≤◌, ◌≢◌, ◌⊎◌, inl, inr, Bool, true, false, cond, not, ◌&&◌, [], ◌∷◌, ◌++◌, length, take, drop, refl, sym, ap, subst, ◌∙◌, arith, append_assoc, length-append}
use Rattle.std.specs.Prelude.{nat_le, nat_lt, ◌==◌, replicate}
use Rattle.std.specs.Fmt.{decimal}
use Rattle.std.proofs.lemmas.Fmt.{decimal_by_steps, decimal_step, decimal_digit}
use Rattle.std.proofs.lemmas.Grind.{common_steps}
use Rattle.df_model.specs.Values.{Bytes}
use Rattle.df_model.specs.BadInput.{IsUnended}
use Rattle.df_model.specs.declared.session.BadKind.{BadKind}
use Rattle.df_model.specs.declared.session.BadKind.TheVariants as kinds
use Rattle.df_resp.specs.Scan.{Scan, fixed, some_bytes}
use Rattle.df_resp.specs.Lines.{is_digit, line_feed, digits, first_digit, line}
use Rattle.df_resp.proofs.Languages.{Spelled, GoesOn, FirstBad, Reads, same_bad, same_whole, IsGiven, NeverBad, reads_given, reads_as, Both, InEither, reads_both}

-- which way a test went
pub chosen : {A : Type 0} (t : Bool) (x y z : A) → cond t x y ≡ z → ((t ≡ true) × (x ≡ z)) ⊎ ((t ≡ false) × (y ≡ z))
chosen true x y z e = inl (refl, e)
chosen false x y z e = inr (refl, e)

-- ---- a fixed text

abbrev pub IsText : Bytes → Unit {0} → Bytes → Type 0
IsText expected given text = text ≡ expected

-- a part of the text stands here
pub record ExpectsText (expected_kind : BadKind) (expected front : Bytes) (kind : BadKind) : Type 0 where
  pub kind_is : kind ≡ expected_kind
  pub more : Bytes
  pub goes_on : 0 < length more
  pub whole : front ++ more ≡ expected

fixed_sent : (kind : BadKind) (xs rest : Bytes) → fixed kind xs (xs ++ rest) ≡ Scan.Whole tt rest
fixed_sent kind [] rest = refl
fixed_sent kind (x ∷ xs) rest = let same : (x == x) ≡ true = grind arith in rw same (fixed_sent kind xs rest)

fixed_spelled : (kind : BadKind) (xs bytes rest : Bytes) → fixed kind xs bytes ≡ Scan.Whole tt rest → bytes ≡ xs ++ rest
fixed_spelled kind [] bytes rest e = (same_whole (Unit {0}) tt tt bytes rest e).1
fixed_spelled kind (x ∷ xs) [] rest e = cc
fixed_spelled kind (x ∷ xs) (b ∷ bytes) rest e = elim (chosen (b == x) _ _ _ e) [
  | inl h ↦ let ih : bytes ≡ xs ++ rest = fixed_spelled kind xs bytes rest h.1 in let same : b ≡ x = grind arith in cc
  | inr h ↦ cc
]

fixed_more : (kind : BadKind) (xs bytes : Bytes) → fixed kind xs bytes ≡ Scan.More → GoesOn (Unit {0}) (IsText xs) bytes
fixed_more kind [] bytes e = cc
fixed_more kind (x ∷ xs) [] e = record { a = tt; text = x ∷ xs; is = refl; more = x ∷ xs; goes_on = omega arith; whole = refl }
fixed_more kind (x ∷ xs) (b ∷ bytes) e = elim (chosen (b == x) _ _ _ e) [
  | inl h ↦
      let g : GoesOn (Unit {0}) (IsText xs) bytes = fixed_more kind xs bytes h.1 in
      let same : b ≡ x = grind arith in
      record { a = tt; text = x ∷ xs; is = refl; more = g.more; goes_on = g.goes_on; whole = ap (λ y. y ∷ bytes ++ g.more) same ∙ ap (λ y. x ∷ y) (g.whole ∙ g.is) }
  | inr h ↦ cc
]

fixed_bad : (expected : BadKind) (xs bytes bad : Bytes) (kind : BadKind) → fixed expected xs bytes ≡ Scan.Bad bad kind → FirstBad (Unit {0}) (fixed expected xs) (ExpectsText expected xs) bytes bad kind
fixed_bad expected [] bytes bad kind e = cc
fixed_bad expected (x ∷ xs) [] bad kind e = cc
fixed_bad expected (x ∷ xs) (b ∷ bytes) bad kind e = elim (chosen (b == x) _ _ _ e) [
  | inl h ↦
      let f : FirstBad (Unit {0}) (fixed expected xs) (ExpectsText expected xs) bytes bad kind = fixed_bad expected xs bytes bad kind h.1 in
      let same : b ≡ x = grind arith in
      record {
        front = b ∷ f.front;
        byte = f.byte;
        behind = f.behind;
        bad_is = f.bad_is;
        whole = ap (λ y. b ∷ y) f.whole;
        before = rw h.0 f.before;
        from_here = λ more. rw h.0 (f.from_here more);
        expects = record { kind_is = f.expects.kind_is; more = f.expects.more; goes_on = f.expects.goes_on; whole = ap (λ y. y ∷ f.front ++ f.expects.more) same ∙ ap (λ y. x ∷ y) f.expects.whole };
      }
  | inr h ↦
      let s : (b ∷ bytes ≡ bad) × (expected ≡ kind) = same_bad (Unit {0}) (b ∷ bytes) bad expected kind h.1 in
      record {
        front = [];
        byte = b;
        behind = bytes;
        bad_is = sym s.0;
        whole = refl;
        before = refl;
        from_here = λ more. rw h.0 (ap (Scan.Bad (b ∷ more)) s.1);
        expects = record { kind_is = sym s.1; more = x ∷ xs; goes_on = omega arith; whole = refl };
      }
]

pub reads_fixed : (kind : BadKind) (xs : Bytes) → Reads (Unit {0}) (fixed kind xs) (IsText xs) (ExpectsText kind xs)
reads_fixed kind xs = record {
  sent = λ a text rest is. ap (λ x. fixed kind xs (x ++ rest)) is ∙ fixed_sent kind xs rest;
  spelled = λ bytes a rest e. record { text = xs; is = refl; whole = fixed_spelled kind xs bytes rest e };
  more = λ bytes e. fixed_more kind xs bytes e;
  bad = λ bytes bad k e. fixed_bad kind xs bytes bad k e;
}

-- ---- so many bytes

abbrev pub AreSome : ℕ → Bytes → Bytes → Type 0
AreSome n given text = (length given ≡ n) × (text ≡ given)

take_front : (w rest : Bytes) → take (length w) (w ++ rest) ≡ w
take_front w rest = grind (arith, common_steps)

drop_front : (w rest : Bytes) → drop (length w) (w ++ rest) ≡ rest
drop_front w rest = grind (arith, common_steps)

take_drop : (n : ℕ) (bytes : Bytes) → take n bytes ++ drop n bytes ≡ bytes
take_drop n bytes = grind (arith, common_steps)

some_sent : (w rest : Bytes) → some_bytes (length w) (w ++ rest) ≡ Scan.Whole w rest
some_sent w rest =
    let enough : nat_lt (length (w ++ rest)) (length w) ≡ false = grind (arith, length-append {A = ℕ}) in
    rw (enough, take_front w rest, drop_front w rest) refl

some_spelled : (n : ℕ) (bytes w rest : Bytes) → some_bytes n bytes ≡ Scan.Whole w rest → (length w ≡ n) × (bytes ≡ w ++ rest)
some_spelled n bytes w rest e = elim (chosen (nat_lt (length bytes) n) _ _ _ e) [
  | inl h ↦ cc
  | inr h ↦
      let s : (take n bytes ≡ w) × (drop n bytes ≡ rest) = same_whole Bytes (take n bytes) w (drop n bytes) rest h.1 in
      let le : n ≤ length bytes = grind arith in
      let len : length (take n bytes) ≡ n = grind (arith, common_steps) in
      (ap length (sym s.0) ∙ len, sym (take_drop n bytes) ∙ ap (λ x. x ++ drop n bytes) s.0 ∙ ap (λ x. w ++ x) s.1)
]

some_more : (n : ℕ) (bytes : Bytes) → some_bytes n bytes ≡ Scan.More → GoesOn Bytes (AreSome n) bytes
some_more n bytes e = elim (chosen (nat_lt (length bytes) n) _ _ _ e) [
  | inl h ↦
      let lt : length bytes < n = grind arith in
      let zeros : Bytes = replicate (n - length bytes) 0 in
      let len : length zeros ≡ n - length bytes = grind (arith, common_steps) in
      record { a = bytes ++ zeros; text = bytes ++ zeros; is = (omega (arith, len, length-append bytes zeros, lt), refl); more = zeros; goes_on = omega (arith, len, lt); whole = refl }
  | inr h ↦ cc
]

some_never_bad : (n : ℕ) (bytes bad : Bytes) (kind : BadKind) → some_bytes n bytes ≡ Scan.Bad bad kind → ⊥
some_never_bad n bytes bad kind e = elim (chosen (nat_lt (length bytes) n) _ _ _ e) [ inl h ↦ cc | inr h ↦ cc ]

pub reads_some : (n : ℕ) → Reads Bytes (some_bytes n) (AreSome n) NeverBad
reads_some n = record {
  sent = λ w text rest is. ap (λ x. some_bytes n (x ++ rest)) is.1 ∙ ap (λ k. some_bytes k (w ++ rest)) (sym is.0) ∙ some_sent w rest;
  spelled = λ bytes w rest e. (let s : (length w ≡ n) × (bytes ≡ w ++ rest) = some_spelled n bytes w rest e in record { text = w; is = (s.0, refl); whole = s.1 });
  more = λ bytes e. some_more n bytes e;
  bad = λ bytes bad kind e. absurd (some_never_bad n bytes bad kind e);
}

-- ---- a number

-- a further digit
decimal_more : (v d : ℕ) → 0 < v → d < 10 → 10 * v + d < 2 ^ 64 → decimal (10 * v + d) ≡ decimal v ++ (48 + d) ∷ []
decimal_more v d some small fits =
    let ten : 10 ≤ 10 * v + d = omega arith in
    let front : (10 * v + d) / 10 ≡ v = omega arith in
    let last : (10 * v + d) % 10 ≡ d = omega arith in
    decimal_step (10 * v + d) ten fits ∙ ap (λ x. decimal x ++ (48 + (10 * v + d) % 10) ∷ []) front ∙ ap (λ x. decimal v ++ (48 + x) ∷ []) last

is_a_digit : (d : ℕ) → d < 10 → is_digit (48 + d) ≡ true
is_a_digit d small = grind arith

one_digit : (kind : BadKind) (limit n : ℕ) → n < 10 → n ≤ limit → (rest : Bytes) → first_digit kind limit ((48 + n) ∷ rest) ≡ digits kind limit n rest
one_digit kind limit n small le rest =
    let a_digit : is_digit (48 + n) ≡ true = is_a_digit n small in
    let back : 48 + n - 48 ≡ n = omega arith in
    let fits : nat_le n limit ≡ true = grind arith in
    rw (a_digit, back, fits) refl

digit_step : (kind : BadKind) (limit v d : ℕ) → d < 10 → 0 < v → 10 * v + d ≤ limit → (rest : Bytes) → digits kind limit v ((48 + d) ∷ rest) ≡ digits kind limit (10 * v + d) rest
digit_step kind limit v d small some le rest =
    let no_end : ((48 + d) == 13) ≡ false = grind arith in
    let a_digit : is_digit (48 + d) ≡ true = is_a_digit d small in
    let not_zero : (v == 0) ≡ false = grind arith in
    let back : 48 + d - 48 ≡ d = omega arith in
    let fits : nat_le (10 * v + d) limit ≡ true = grind arith in
    rw (no_end, a_digit, not_zero, back, fits) refl

one_more : (kind : BadKind) (limit n : ℕ) → 10 ≤ n → n ≤ limit → (rest : Bytes) → digits kind limit (n / 10) ((48 + n % 10) ∷ rest) ≡ digits kind limit n rest
one_more kind limit n big le rest =
    let small : n % 10 < 10 = omega arith in
    let same : 10 * (n / 10) + n % 10 ≡ n = omega arith in
    let some : 0 < n / 10 = omega arith in
    let fits : 10 * (n / 10) + n % 10 ≤ limit = omega arith in
    digit_step kind limit (n / 10) (n % 10) small some fits rest ∙ ap (λ x. digits kind limit x rest) same

-- a number that is written is read, whatever follows it
read_decimal : (kind : BadKind) (limit n : ℕ) → n ≤ limit → n < 2 ^ 64 → (rest : Bytes) → first_digit kind limit (decimal n ++ rest) ≡ digits kind limit n rest
read_decimal kind limit n le small =
    decimal_by_steps (λ n ds. n ≤ limit → (rest : Bytes) → first_digit kind limit (ds ++ rest) ≡ digits kind limit n rest)
    (λ n small le rest. one_digit kind limit n small le rest)
    (λ n ds big ih le rest.
    let le' : n / 10 ≤ limit = omega arith in
    ap (first_digit kind limit) (append_assoc ds ((48 + n % 10) ∷ []) rest) ∙ ih le' ((48 + n % 10) ∷ rest) ∙ one_more kind limit n big le rest)
    n small le

-- a byte that is a digit, as a number
digit_of : (b : ℕ) → is_digit b ≡ true → (b - 48 < 10) × (48 + (b - 48) ≡ b)
digit_of b e = grind arith

-- what passes as a further digit
step_of : (limit v b : ℕ) → (is_digit b && (not (v == 0) && nat_le (10 * v + (b - 48)) limit)) ≡ true → (is_digit b ≡ true) × (0 < v) × (10 * v + (b - 48) ≤ limit)
step_of limit v b e = grind arith

-- ---- the digits behind digits with this value

-- these end a number that begins with `value`
abbrev pub EndsNumber : ℕ → ℕ → ℕ → Bytes → Type 0
EndsNumber limit value n text = (n ≤ limit) × (decimal value ++ text ≡ decimal n ++ 13 ∷ 10 ∷ [])

abbrev pub ExpectsDigits : BadKind → Bytes → BadKind → Type 0
ExpectsDigits expected front kind = (kind ≡ expected) × IsUnended front

abbrev pub IsFeed : ℕ → ℕ → Bytes → Type 0
IsFeed value n text = (n ≡ value) × (text ≡ 10 ∷ [])

abbrev pub ExpectsFeed : BadKind → Bytes → BadKind → Type 0
ExpectsFeed expected front kind = (kind ≡ expected) × (front ≡ [])

pub before_one : (x : ℕ) (front more : Bytes) → 0 < length more → front ++ more ≡ x ∷ [] → front ≡ []
before_one x [] more some e = refl
before_one x (y ∷ front) more some e = let l : length (front ++ more) ≡ 0 = (let m : suc (length (front ++ more)) ≡ 1 = omega (arith, ap length e) in omega (arith, m)) in absurd (omega (arith, l, length-append front more, some))

feed_of : (value n : ℕ) (text : Bytes) → Both (Unit {0}) ℕ (IsText (10 ∷ [])) (λ _ n. IsGiven ℕ value n) n text → IsFeed value n text
feed_of value n text b = (b.second_is.0, b.whole ∙ ap (λ x. x ++ b.second) b.first_is ∙ ap (λ x. 10 ∷ x) b.second_is.1)

of_feed : (value n : ℕ) (text : Bytes) → IsFeed value n text → Both (Unit {0}) ℕ (IsText (10 ∷ [])) (λ _ n. IsGiven ℕ value n) n text
of_feed value n text is = record { a = tt; first = 10 ∷ []; second = []; first_is = refl; second_is = (is.0, refl); whole = is.1 }

feed_expects : (kind : BadKind) (front : Bytes) (k : BadKind) → InEither (Unit {0}) (IsText (10 ∷ [])) (ExpectsText kind (10 ∷ [])) (λ _. NeverBad) front k → ExpectsFeed kind front k
feed_expects kind front k (inl e) = (e.kind_is, before_one 10 front e.more e.goes_on e.whole)
feed_expects kind front k (inr b) = absurd b.expects

reads_feed : (kind : BadKind) (value : ℕ) → Reads ℕ (line_feed kind value) (IsFeed value) (ExpectsFeed kind)
reads_feed kind value =
    reads_as ℕ (line_feed kind value) (Both (Unit {0}) ℕ (IsText (10 ∷ [])) (λ _ n. IsGiven ℕ value n)) (IsFeed value) (InEither (Unit {0}) (IsText (10 ∷ [])) (ExpectsText kind (10 ∷ [])) (λ _. NeverBad)) (ExpectsFeed kind)
    (feed_of value) (of_feed value) (feed_expects kind)
    (reads_both (Unit {0}) ℕ (fixed kind (10 ∷ [])) (λ _ rest. Scan.Whole value rest) (IsText (10 ∷ [])) (λ _ n. IsGiven ℕ value n) (ExpectsText kind (10 ∷ [])) (λ _. NeverBad) (reads_fixed kind (10 ∷ []))
    (λ _ _ _. reads_given ℕ value) (λ _ _ _. record { b = value; text = []; is = (refl, refl) }))

next_decimal : (limit v b : ℕ) (text : Bytes) → limit < 2 ^ 32 → is_digit b ≡ true → 0 < v → 10 * v + (b - 48) ≤ limit → decimal v ++ (b ∷ text) ≡ decimal (10 * v + (b - 48)) ++ text
next_decimal limit v b text small digit some le =
    let d : (b - 48 < 10) × (48 + (b - 48) ≡ b) = digit_of b digit in
    let fits : 10 * v + (b - 48) < 2 ^ 64 = omega arith in
    let one : decimal (10 * v + (b - 48)) ≡ decimal v ++ b ∷ [] = decimal_more v (b - 48) some d.0 fits ∙ ap (λ x. decimal v ++ x ∷ []) d.1 in
    sym (append_assoc (decimal v) (b ∷ []) text) ∙ sym (ap (λ x. x ++ text) one)

digits_spelled : (kind : BadKind) (limit v : ℕ) (bytes : Bytes) (n : ℕ) (rest : Bytes) → limit < 2 ^ 32 → v ≤ limit → digits kind limit v bytes ≡ Scan.Whole n rest → Spelled ℕ (EndsNumber limit v) n bytes rest
digits_spelled kind limit v [] n rest small le e = cc
digits_spelled kind limit v (b ∷ bytes) n rest small le e = elim (chosen (b == 13) _ _ _ e) [
  | inl h ↦
      let s : Spelled ℕ (IsFeed v) n bytes rest = (reads_feed kind v).spelled bytes n rest h.1 in
      let is : b ≡ 13 = grind arith in
      record { text = b ∷ s.text; is = (subst (λ x. x ≤ limit) (sym s.is.0) le, ap (λ x. decimal v ++ x ∷ s.text) is ∙ ap (λ x. decimal v ++ 13 ∷ x) s.is.1 ∙ ap (λ x. decimal x ++ 13 ∷ 10 ∷ []) (sym s.is.0)); whole = ap (λ x. b ∷ x) s.whole }
  | inr h ↦ elim (chosen (is_digit b && (not (v == 0) && nat_le (10 * v + (b - 48)) limit)) _ _ _ h.1) [
    | inl k ↦
        let s : (is_digit b ≡ true) × (0 < v) × (10 * v + (b - 48) ≤ limit) = step_of limit v b k.0 in
        let ih : Spelled ℕ (EndsNumber limit (10 * v + (b - 48))) n bytes rest = digits_spelled kind limit (10 * v + (b - 48)) bytes n rest small s.2 k.1 in
        record { text = b ∷ ih.text; is = (ih.is.0, next_decimal limit v b ih.text small s.0 s.1 s.2 ∙ ih.is.1); whole = ap (λ x. b ∷ x) ih.whole }
    | inr k ↦ cc
  ]
]

digits_more : (kind : BadKind) (limit v : ℕ) (bytes : Bytes) → limit < 2 ^ 32 → v ≤ limit → digits kind limit v bytes ≡ Scan.More → GoesOn ℕ (EndsNumber limit v) bytes
digits_more kind limit v [] small le e = record { a = v; text = 13 ∷ 10 ∷ []; is = (le, refl); more = 13 ∷ 10 ∷ []; goes_on = omega arith; whole = refl }
digits_more kind limit v (b ∷ bytes) small le e = elim (chosen (b == 13) _ _ _ e) [
  | inl h ↦
      let g : GoesOn ℕ (IsFeed v) bytes = (reads_feed kind v).more bytes h.1 in
      let is : b ≡ 13 = grind arith in
      record { a = g.a; text = b ∷ g.text; is = (subst (λ x. x ≤ limit) (sym g.is.0) le, ap (λ x. decimal v ++ x ∷ g.text) is ∙ ap (λ x. decimal v ++ 13 ∷ x) g.is.1 ∙ ap (λ x. decimal x ++ 13 ∷ 10 ∷ []) (sym g.is.0)); more = g.more; goes_on = g.goes_on; whole = ap (λ x. b ∷ x) g.whole }
  | inr h ↦ elim (chosen (is_digit b && (not (v == 0) && nat_le (10 * v + (b - 48)) limit)) _ _ _ h.1) [
    | inl k ↦
        let s : (is_digit b ≡ true) × (0 < v) × (10 * v + (b - 48) ≤ limit) = step_of limit v b k.0 in
        let ih : GoesOn ℕ (EndsNumber limit (10 * v + (b - 48))) bytes = digits_more kind limit (10 * v + (b - 48)) bytes small s.2 k.1 in
        record { a = ih.a; text = b ∷ ih.text; is = (ih.is.0, next_decimal limit v b ih.text small s.0 s.1 s.2 ∙ ih.is.1); more = ih.more; goes_on = ih.goes_on; whole = ap (λ x. b ∷ x) ih.whole }
    | inr k ↦ cc
  ]
]

not_feed : (b : ℕ) → is_digit b ≡ true → b ≢ 10
not_feed b e is = absurd (let h : (nat_le 48 b) ≡ true = grind arith in let z : 48 ≤ b = grind arith in omega (arith, z, is))

digits_bad : (expected : BadKind) (limit v : ℕ) (bytes bad : Bytes) (kind : BadKind) → digits expected limit v bytes ≡ Scan.Bad bad kind → FirstBad ℕ (digits expected limit v) (ExpectsDigits expected) bytes bad kind
digits_bad expected limit v [] bad kind e = cc
digits_bad expected limit v (b ∷ bytes) bad kind e = elim (chosen (b == 13) _ _ _ e) [
  | inl h ↦
      let f : FirstBad ℕ (line_feed expected v) (ExpectsFeed expected) bytes bad kind = (reads_feed expected v).bad bytes bad kind h.1 in
      let is : b ≡ 13 = grind arith in
      record {
        front = b ∷ f.front;
        byte = f.byte;
        behind = f.behind;
        bad_is = f.bad_is;
        whole = ap (λ y. b ∷ y) f.whole;
        before = rw h.0 f.before;
        from_here = λ more. rw h.0 (f.from_here more);
        expects = (f.expects.0, ((λ ten. absurd (omega (arith, is, ten))), subst IsUnended (sym f.expects.1) tt));
      }
  | inr h ↦ elim (chosen (is_digit b && (not (v == 0) && nat_le (10 * v + (b - 48)) limit)) _ _ _ h.1) [
    | inl k ↦
        let s : (is_digit b ≡ true) × (0 < v) × (10 * v + (b - 48) ≤ limit) = step_of limit v b k.0 in
        let f : FirstBad ℕ (digits expected limit (10 * v + (b - 48))) (ExpectsDigits expected) bytes bad kind = digits_bad expected limit (10 * v + (b - 48)) bytes bad kind k.1 in
        record {
          front = b ∷ f.front;
          byte = f.byte;
          behind = f.behind;
          bad_is = f.bad_is;
          whole = ap (λ y. b ∷ y) f.whole;
          before = rw h.0 (rw k.0 f.before);
          from_here = λ more. rw h.0 (rw k.0 (f.from_here more));
          expects = (f.expects.0, (not_feed b s.0, f.expects.1));
        }
    | inr k ↦
        let s : (b ∷ bytes ≡ bad) × (expected ≡ kind) = same_bad ℕ (b ∷ bytes) bad expected kind k.1 in
        record {
          front = [];
          byte = b;
          behind = bytes;
          bad_is = sym s.0;
          whole = refl;
          before = refl;
          from_here = λ more. rw h.0 (rw k.0 (ap (Scan.Bad (b ∷ more)) s.1));
          expects = (sym s.1, tt);
        }
  ]
]

-- ---- a line

abbrev pub IsLine : ℕ → ℕ → ℕ → Bytes → Type 0
IsLine mark limit n text = (n ≤ limit) × (text ≡ mark ∷ decimal n ++ 13 ∷ 10 ∷ [])

-- the mark, or what follows it up to the line feed
abbrev pub ExpectsLine : ℕ → BadKind → Bytes → BadKind → Type 0
ExpectsLine mark expected front kind = ((kind ≡ kinds.Start) × (front ≡ [])) ⊎ ((kind ≡ expected) × ((line : Bytes) × (front ≡ mark ∷ line) × IsUnended line))

line_sent : (mark : ℕ) (kind : BadKind) (limit n : ℕ) (rest : Bytes) → limit < 2 ^ 32 → n ≤ limit → line mark kind limit ((mark ∷ decimal n ++ 13 ∷ 10 ∷ []) ++ rest) ≡ Scan.Whole n rest
line_sent mark kind limit n rest small le =
    let same : (mark == mark) ≡ true = grind arith in
    let fits : n < 2 ^ 64 = omega arith in
    ap (λ t. cond t (first_digit kind limit ((decimal n ++ 13 ∷ 10 ∷ []) ++ rest)) (Scan.Bad ((mark ∷ decimal n ++ 13 ∷ 10 ∷ []) ++ rest) kinds.Start)) same
    ∙ ap (first_digit kind limit) (append_assoc (decimal n) (13 ∷ 10 ∷ []) rest) ∙ read_decimal kind limit n le fits (13 ∷ 10 ∷ rest)

first_of : (limit c : ℕ) → (is_digit c && nat_le (c - 48) limit) ≡ true → (is_digit c ≡ true) × (c - 48 ≤ limit)
first_of limit c e = grind arith

-- the first digit as a number, and what follows
one_decimal : (c : ℕ) (text : Bytes) → is_digit c ≡ true → c ∷ text ≡ decimal (c - 48) ++ text
one_decimal c text digit =
    let d : (c - 48 < 10) × (48 + (c - 48) ≡ c) = digit_of c digit in
    sym (ap (λ x. x ++ text) (decimal_digit (c - 48) d.0 ∙ ap (λ x. x ∷ []) d.1))

line_spelled : (mark : ℕ) (kind : BadKind) (limit : ℕ) (bytes : Bytes) (n : ℕ) (rest : Bytes) → limit < 2 ^ 32 → line mark kind limit bytes ≡ Scan.Whole n rest → Spelled ℕ (IsLine mark limit) n bytes rest
line_spelled mark kind limit [] n rest small e = cc
line_spelled mark kind limit (b ∷ []) n rest small e = elim (chosen (b == mark) _ _ _ e) [ inl h ↦ cc | inr h ↦ cc ]
line_spelled mark kind limit (b ∷ c ∷ bytes) n rest small e = elim (chosen (b == mark) _ _ _ e) [
  | inl h ↦ elim (chosen (is_digit c && nat_le (c - 48) limit) _ _ _ h.1) [
    | inl k ↦
        let f : (is_digit c ≡ true) × (c - 48 ≤ limit) = first_of limit c k.0 in
        let is : b ≡ mark = grind arith in
        let s : Spelled ℕ (EndsNumber limit (c - 48)) n bytes rest = digits_spelled kind limit (c - 48) bytes n rest small f.1 k.1 in
        record { text = b ∷ c ∷ s.text; is = (s.is.0, ap (λ x. x ∷ c ∷ s.text) is ∙ ap (λ x. mark ∷ x) (one_decimal c s.text f.0 ∙ s.is.1)); whole = ap (λ x. b ∷ c ∷ x) s.whole }
    | inr k ↦ cc
  ]
  | inr h ↦ cc
]

line_more : (mark : ℕ) (kind : BadKind) (limit : ℕ) (bytes : Bytes) → limit < 2 ^ 32 → line mark kind limit bytes ≡ Scan.More → GoesOn ℕ (IsLine mark limit) bytes
line_more mark kind limit [] small e = record { a = 0; text = mark ∷ decimal 0 ++ 13 ∷ 10 ∷ []; is = (omega arith, refl); more = mark ∷ decimal 0 ++ 13 ∷ 10 ∷ []; goes_on = omega arith; whole = refl }
line_more mark kind limit (b ∷ []) small e = elim (chosen (b == mark) _ _ _ e) [
  | inl h ↦
      let is : b ≡ mark = grind arith in
      record { a = 0; text = b ∷ decimal 0 ++ 13 ∷ 10 ∷ []; is = (omega arith, ap (λ x. x ∷ decimal 0 ++ 13 ∷ 10 ∷ []) is); more = decimal 0 ++ 13 ∷ 10 ∷ []; goes_on = omega (arith, length-append (decimal 0) (13 ∷ 10 ∷ [])); whole = refl }
  | inr h ↦ cc
]
line_more mark kind limit (b ∷ c ∷ bytes) small e = elim (chosen (b == mark) _ _ _ e) [
  | inl h ↦ elim (chosen (is_digit c && nat_le (c - 48) limit) _ _ _ h.1) [
    | inl k ↦
        let f : (is_digit c ≡ true) × (c - 48 ≤ limit) = first_of limit c k.0 in
        let is : b ≡ mark = grind arith in
        let g : GoesOn ℕ (EndsNumber limit (c - 48)) bytes = digits_more kind limit (c - 48) bytes small f.1 k.1 in
        record { a = g.a; text = b ∷ c ∷ g.text; is = (g.is.0, ap (λ x. x ∷ c ∷ g.text) is ∙ ap (λ x. mark ∷ x) (one_decimal c g.text f.0 ∙ g.is.1)); more = g.more; goes_on = g.goes_on; whole = ap (λ x. b ∷ c ∷ x) g.whole }
    | inr k ↦ cc
  ]
  | inr h ↦ cc
]

behind_mark : (mark : ℕ) (expected : BadKind) (limit b : ℕ) (bytes bad : Bytes) (kind : BadKind) → (b == mark) ≡ true → first_digit expected limit bytes ≡ Scan.Bad bad kind → FirstBad ℕ (line mark expected limit) (ExpectsLine mark expected) (b ∷ bytes) bad kind
behind_mark mark expected limit b [] bad kind marked e = cc
behind_mark mark expected limit b (c ∷ bytes) bad kind marked e =
    let is : b ≡ mark = grind arith in
    elim (chosen (is_digit c && nat_le (c - 48) limit) _ _ _ e) [
      | inl k ↦
          let first : (is_digit c ≡ true) × (c - 48 ≤ limit) = first_of limit c k.0 in
          let f : FirstBad ℕ (digits expected limit (c - 48)) (ExpectsDigits expected) bytes bad kind = digits_bad expected limit (c - 48) bytes bad kind k.1 in
          record {
            front = b ∷ c ∷ f.front;
            byte = f.byte;
            behind = f.behind;
            bad_is = f.bad_is;
            whole = ap (λ y. b ∷ c ∷ y) f.whole;
            before = rw marked (rw k.0 f.before);
            from_here = λ more. rw marked (rw k.0 (f.from_here more));
            expects = inr (f.expects.0, (c ∷ f.front, ap (λ y. y ∷ c ∷ f.front) is, (not_feed c first.0, f.expects.1)));
          }
      | inr k ↦
          let s : (c ∷ bytes ≡ bad) × (expected ≡ kind) = same_bad ℕ (c ∷ bytes) bad expected kind k.1 in
          record {
            front = b ∷ [];
            byte = c;
            behind = bytes;
            bad_is = sym s.0;
            whole = refl;
            before = rw marked refl;
            from_here = λ more. rw marked (rw k.0 (ap (Scan.Bad (c ∷ more)) s.1));
            expects = inr (sym s.1, ([], ap (λ y. y ∷ []) is, tt));
          }
    ]

line_bad : (mark : ℕ) (expected : BadKind) (limit : ℕ) (bytes bad : Bytes) (kind : BadKind) → line mark expected limit bytes ≡ Scan.Bad bad kind → FirstBad ℕ (line mark expected limit) (ExpectsLine mark expected) bytes bad kind
line_bad mark expected limit [] bad kind e = cc
line_bad mark expected limit (b ∷ bytes) bad kind e = elim (chosen (b == mark) _ _ _ e) [
  | inl h ↦ behind_mark mark expected limit b bytes bad kind h.0 h.1
  | inr h ↦
      let s : (b ∷ bytes ≡ bad) × (kinds.Start ≡ kind) = same_bad ℕ (b ∷ bytes) bad kinds.Start kind h.1 in
      record {
        front = [];
        byte = b;
        behind = bytes;
        bad_is = sym s.0;
        whole = refl;
        before = refl;
        from_here = λ more. rw h.0 (ap (Scan.Bad (b ∷ more)) s.1);
        expects = inl (sym s.1, refl);
      }
]

pub reads_line : (mark : ℕ) (kind : BadKind) (limit : ℕ) → limit < 2 ^ 32 → Reads ℕ (line mark kind limit) (IsLine mark limit) (ExpectsLine mark kind)
reads_line mark kind limit small = record {
  sent = λ n text rest is. ap (λ x. line mark kind limit (x ++ rest)) is.1 ∙ line_sent mark kind limit n rest small is.0;
  spelled = λ bytes n rest e. line_spelled mark kind limit bytes n rest small e;
  more = λ bytes e. line_more mark kind limit bytes small e;
  bad = λ bytes bad k e. line_bad mark kind limit bytes bad k e;
}
