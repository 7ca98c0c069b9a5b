-- What reading a frame's line reads.
use Rattle.std.proofs.Common.{◌≡◌, ℕ, ◌<◌, ◌≢◌, ◌⊎◌, inl, inr, Bool, true, false, [], ◌∷◌, ◌++◌, length, drop, refl, sym, ap, subst, ◌∙◌, arith, append-nil, length-append}
use Rattle.std.specs.Prelude.{◌==◌, Option, Some, None}
use Rattle.df_model.specs.Values.{Bytes}
use Rattle.df_model.specs.Framing.{MAX_WORDS}
use Rattle.df_model.specs.BadInput.{IsUnended}
use Rattle.df_model.specs.declared.session.BadKind.{BadKind}
use Rattle.df_model.specs.declared.session.BadKind.TheVariants as kinds
use Rattle.df_resp.specs.Scan.{Scan, and_then, fixed}
use Rattle.df_resp.specs.Lines.{line}
use Rattle.df_resp.specs.Frames.{begins_null, head}
use Rattle.df_resp.proofs.Languages.{Spelled, GoesOn, FirstBad, Reads, IsGiven, NeverBad, reads_given, reads_as, Both, InEither, reads_both}
use Rattle.df_resp.proofs.LineLaws.{IsText, ExpectsText, reads_fixed, IsLine, ExpectsLine, reads_line}

pub either : (t : Bool) → (t ≡ true) ⊎ (t ≡ false)
either true = inl refl
either false = inr refl

pub none_at : (n : ℕ) → (n == 0) ≡ true → n ≡ 0
none_at n e = grind arith

pub some_at : (n : ℕ) → (n == 0) ≡ false → 0 < n
some_at n e = grind arith

-- ---- a count

abbrev counted : Bytes → Scan (Option ℕ)
counted bytes = and_then (line 42 kinds.Count MAX_WORDS bytes) (λ n rest. Scan.Whole (Some n) rest)

abbrev pub IsCounted : Option ℕ → Bytes → Type 0
IsCounted count text = (n : ℕ) × (count ≡ Some n) × IsLine 42 MAX_WORDS n text

abbrev GivenCount : ℕ → Option ℕ → Bytes → Type 0
GivenCount n = IsGiven (Option ℕ) (Some n)

counted_of : (count : Option ℕ) (text : Bytes) → Both ℕ (Option ℕ) (IsLine 42 MAX_WORDS) GivenCount count text → IsCounted count text
counted_of count text b = (b.a, b.second_is.0, subst (IsLine 42 MAX_WORDS b.a) (sym (b.whole ∙ ap (λ x. b.first ++ x) b.second_is.1 ∙ append-nil b.first)) b.first_is)

of_counted : (count : Option ℕ) (text : Bytes) → IsCounted count text → Both ℕ (Option ℕ) (IsLine 42 MAX_WORDS) GivenCount count text
of_counted count text is = record { a = is.0; first = text; second = []; first_is = is.2; second_is = (is.1, refl); whole = sym (append-nil text) }

count_expects : (front : Bytes) (kind : BadKind) → InEither ℕ (IsLine 42 MAX_WORDS) (ExpectsLine 42 kinds.Count) (λ _. NeverBad) front kind → ExpectsLine 42 kinds.Count front kind
count_expects front kind (inl e) = e
count_expects front kind (inr b) = absurd b.expects

reads_counted : Reads (Option ℕ) counted IsCounted (ExpectsLine 42 kinds.Count)
reads_counted =
    reads_as (Option ℕ) counted (Both ℕ (Option ℕ) (IsLine 42 MAX_WORDS) GivenCount) IsCounted (InEither ℕ (IsLine 42 MAX_WORDS) (ExpectsLine 42 kinds.Count) (λ _. NeverBad)) (ExpectsLine 42 kinds.Count)
    counted_of of_counted count_expects
    (reads_both ℕ (Option ℕ) (line 42 kinds.Count MAX_WORDS) (λ n rest. Scan.Whole (Some n) rest) (IsLine 42 MAX_WORDS) GivenCount (ExpectsLine 42 kinds.Count) (λ _. NeverBad) (reads_line 42 kinds.Count MAX_WORDS (omega arith))
    (λ n _ _. reads_given (Option ℕ) (Some n)) (λ n _ _. record { b = Some n; text = []; is = (refl, refl) }))

-- ---- what follows a minus

abbrev one_crlf : Bytes
one_crlf = 49 ∷ 13 ∷ 10 ∷ []

abbrev null : Bytes → Scan (Option ℕ)
null bytes = and_then (fixed kinds.Count one_crlf bytes) (λ _ rest. Scan.Whole None rest)

abbrev IsNull : Option ℕ → Bytes → Type 0
IsNull count text = (count ≡ None) × (text ≡ one_crlf)

abbrev ExpectsNull : Bytes → BadKind → Type 0
ExpectsNull front kind = (kind ≡ kinds.Count) × IsUnended front

null_of : (count : Option ℕ) (text : Bytes) → Both (Unit {0}) (Option ℕ) (IsText one_crlf) (λ _. IsGiven (Option ℕ) None) count text → IsNull count text
null_of count text b = (b.second_is.0, b.whole ∙ ap (λ x. x ++ b.second) b.first_is ∙ ap (λ x. one_crlf ++ x) b.second_is.1)

of_null : (count : Option ℕ) (text : Bytes) → IsNull count text → Both (Unit {0}) (Option ℕ) (IsText one_crlf) (λ _. IsGiven (Option ℕ) None) count text
of_null count text is = record { a = tt; first = one_crlf; second = []; first_is = refl; second_is = (is.0, refl); whole = is.1 }

not_feed : (b n : ℕ) → b ≡ n → 10 < n → b ≢ 10
not_feed b n is big ten = omega (arith, is, big, ten)

one_not_feed : (b : ℕ) → b ≡ 49 → b ≢ 10
one_not_feed b is = not_feed b 49 is (omega arith)

cr_not_feed : (b : ℕ) → b ≡ 13 → b ≢ 10
cr_not_feed b is = not_feed b 13 is (omega arith)

unended_before : (front more : Bytes) → 0 < length more → front ++ more ≡ 49 ∷ 13 ∷ 10 ∷ [] → IsUnended front
unended_before [] more some e = tt
unended_before (x ∷ []) more some e = (one_not_feed x cc, tt)
unended_before (x ∷ y ∷ []) more some e = (one_not_feed x cc, (cr_not_feed y cc, tt))
unended_before (x ∷ y ∷ z ∷ front) more some e = absurd (omega (arith, ap length e, length-append (x ∷ y ∷ z ∷ front) more, some))

null_expects : (front : Bytes) (kind : BadKind) → InEither (Unit {0}) (IsText one_crlf) (ExpectsText kinds.Count one_crlf) (λ _. NeverBad) front kind → ExpectsNull front kind
null_expects front kind (inl e) = (e.kind_is, unended_before front e.more e.goes_on e.whole)
null_expects front kind (inr b) = absurd b.expects

reads_null : Reads (Option ℕ) null IsNull ExpectsNull
reads_null =
    reads_as (Option ℕ) null (Both (Unit {0}) (Option ℕ) (IsText one_crlf) (λ _. IsGiven (Option ℕ) None)) IsNull (InEither (Unit {0}) (IsText one_crlf) (ExpectsText kinds.Count one_crlf) (λ _. NeverBad)) ExpectsNull
    null_of of_null null_expects
    (reads_both (Unit {0}) (Option ℕ) (fixed kinds.Count one_crlf) (λ _ rest. Scan.Whole None rest) (IsText one_crlf) (λ _. IsGiven (Option ℕ) None) (ExpectsText kinds.Count one_crlf) (λ _. NeverBad) (reads_fixed kinds.Count one_crlf)
    (λ _ _ _. reads_given (Option ℕ) None) (λ _ _ _. record { b = None; text = []; is = (refl, refl) }))

-- ---- the one or the other

pub head_null : (bytes : Bytes) → begins_null bytes ≡ true → head bytes ≡ and_then (fixed kinds.Count (49 ∷ 13 ∷ 10 ∷ []) (drop 2 bytes)) (λ _ rest. Scan.Whole None rest)
head_null bytes e = rw e refl

pub head_line : (bytes : Bytes) → begins_null bytes ≡ false → head bytes ≡ and_then (line 42 kinds.Count MAX_WORDS bytes) (λ n rest. Scan.Whole (Some n) rest)
head_line bytes e = rw e refl

abbrev pub IsHead : Option ℕ → Bytes → Type 0
IsHead count text = IsCounted count text ⊎ ((count ≡ None) × (text ≡ 42 ∷ 45 ∷ 49 ∷ 13 ∷ 10 ∷ []))

begins : (bytes : Bytes) → begins_null bytes ≡ true → (tail : Bytes) × (bytes ≡ 42 ∷ 45 ∷ tail)
begins [] e = cc
begins (a ∷ []) e = cc
begins (a ∷ b ∷ bytes) e =
    let star : a ≡ 42 = grind arith in
    let minus : b ≡ 45 = grind arith in
    (bytes, ap (λ x. x ∷ b ∷ bytes) star ∙ ap (λ x. 42 ∷ x ∷ bytes) minus)

-- a minus is no count
counted_minus : (tail : Bytes) → counted (42 ∷ 45 ∷ tail) ≡ Scan.Bad (45 ∷ tail) kinds.Count
counted_minus tail = refl

not_null : (bytes : Bytes) (count : Option ℕ) (rest : Bytes) → counted bytes ≡ Scan.Whole count rest → begins_null bytes ≡ false
not_null bytes count rest e = elim (either (begins_null bytes)) [
  | inl t ↦
      let b : (tail : Bytes) × (bytes ≡ 42 ∷ 45 ∷ tail) = begins bytes t in
      let bad : counted bytes ≡ Scan.Bad (45 ∷ b.0) kinds.Count = ap counted b.1 ∙ counted_minus b.0 in
      absurd (let no : Scan.Whole count rest ≡ Scan.Bad (45 ∷ b.0) kinds.Count = sym e ∙ bad in cc)
  | inr f ↦ f
]

head_sent : (count : Option ℕ) (text rest : Bytes) → IsHead count text → head (text ++ rest) ≡ Scan.Whole count rest
head_sent count text rest (inl is) =
    let whole : counted (text ++ rest) ≡ Scan.Whole count rest = reads_counted.sent count text rest is in
    head_line (text ++ rest) (not_null (text ++ rest) count rest whole) ∙ whole
head_sent count text rest (inr is) = ap (λ x. head (x ++ rest)) is.1 ∙ ap (λ c. Scan.Whole c rest) (sym is.0)

head_spelled : (bytes : Bytes) (count : Option ℕ) (rest : Bytes) → head bytes ≡ Scan.Whole count rest → Spelled (Option ℕ) IsHead count bytes rest
head_spelled bytes count rest e = elim (either (begins_null bytes)) [
  | inl t ↦
      let b : (tail : Bytes) × (bytes ≡ 42 ∷ 45 ∷ tail) = begins bytes t in
      let found : null b.0 ≡ Scan.Whole count rest = ap (λ x. null (drop 2 x)) (sym b.1) ∙ sym (head_null bytes t) ∙ e in
      let s : Spelled (Option ℕ) IsNull count b.0 rest = reads_null.spelled b.0 count rest found in
      record { text = 42 ∷ 45 ∷ s.text; is = inr (s.is.0, ap (λ x. 42 ∷ 45 ∷ x) s.is.1); whole = b.1 ∙ ap (λ x. 42 ∷ 45 ∷ x) s.whole }
  | inr f ↦
      let s : Spelled (Option ℕ) IsCounted count bytes rest = reads_counted.spelled bytes count rest (sym (head_line bytes f) ∙ e) in
      record { text = s.text; is = inl s.is; whole = s.whole }
]

head_more : (bytes : Bytes) → head bytes ≡ Scan.More → GoesOn (Option ℕ) IsHead bytes
head_more bytes e = elim (either (begins_null bytes)) [
  | inl t ↦
      let b : (tail : Bytes) × (bytes ≡ 42 ∷ 45 ∷ tail) = begins bytes t in
      let found : null b.0 ≡ Scan.More = ap (λ x. null (drop 2 x)) (sym b.1) ∙ sym (head_null bytes t) ∙ e in
      let g : GoesOn (Option ℕ) IsNull b.0 = reads_null.more b.0 found in
      record { a = g.a; text = 42 ∷ 45 ∷ g.text; is = inr (g.is.0, ap (λ x. 42 ∷ 45 ∷ x) g.is.1); more = g.more; goes_on = g.goes_on; whole = ap (λ x. x ++ g.more) b.1 ∙ ap (λ x. 42 ∷ 45 ∷ x) g.whole }
  | inr f ↦
      let g : GoesOn (Option ℕ) IsCounted bytes = reads_counted.more bytes (sym (head_line bytes f) ∙ e) in
      record { a = g.a; text = g.text; is = inl g.is; more = g.more; goes_on = g.goes_on; whole = g.whole }
]

null_stays : (front more : Bytes) → begins_null front ≡ true → begins_null (front ++ more) ≡ true
null_stays [] more e = cc
null_stays (a ∷ []) more e = cc
null_stays (a ∷ b ∷ front) more e = e

-- before what is bad, and up to it, stands no minus
not_null_before : (front behind : Bytes) → begins_null (front ++ behind) ≡ false → begins_null front ≡ false
not_null_before front behind e = elim (either (begins_null front)) [
  | inl t ↦ absurd (let yes : begins_null (front ++ behind) ≡ true = null_stays front behind t in let no : true ≡ false = sym yes ∙ e in cc)
  | inr f ↦ f
]

not_star : (byte : ℕ) (kind : BadKind) → counted (byte ∷ []) ≡ Scan.Bad (byte ∷ []) kind → (byte == 42) ≡ false
not_star byte kind e = elim (either (byte == 42)) [
  | inl t ↦
      let is : byte ≡ 42 = grind arith in
      let more : counted (byte ∷ []) ≡ Scan.More = ap (λ x. counted (x ∷ [])) is in
      absurd (let no : Scan.Bad (byte ∷ []) kind ≡ Scan.More = sym e ∙ more in cc)
  | inr f ↦ f
]

not_null_with : (front : Bytes) (byte : ℕ) (behind more : Bytes) (kind : BadKind) → begins_null (front ++ byte ∷ behind) ≡ false → counted (front ++ byte ∷ []) ≡ Scan.Bad (byte ∷ []) kind → begins_null (front ++ byte ∷ more) ≡ false
not_null_with [] byte behind [] kind e bad = refl
not_null_with [] byte behind (m ∷ more) kind e bad = let no : (byte == 42) ≡ false = not_star byte kind bad in rw no refl
not_null_with (a ∷ []) byte behind more kind e bad = e
not_null_with (a ∷ b ∷ front) byte behind more kind e bad = e

head_bad : (bytes bad : Bytes) (kind : BadKind) → head bytes ≡ Scan.Bad bad kind → FirstBad (Option ℕ) head (ExpectsLine 42 kinds.Count) bytes bad kind
head_bad bytes bad kind e = elim (either (begins_null bytes)) [
  | inl t ↦
      let b : (tail : Bytes) × (bytes ≡ 42 ∷ 45 ∷ tail) = begins bytes t in
      let found : null b.0 ≡ Scan.Bad bad kind = ap (λ x. null (drop 2 x)) (sym b.1) ∙ sym (head_null bytes t) ∙ e in
      let f : FirstBad (Option ℕ) null ExpectsNull b.0 bad kind = reads_null.bad b.0 bad kind found in
      record {
        front = 42 ∷ 45 ∷ f.front;
        byte = f.byte;
        behind = f.behind;
        bad_is = f.bad_is;
        whole = b.1 ∙ ap (λ x. 42 ∷ 45 ∷ x) f.whole;
        before = head_null (42 ∷ 45 ∷ f.front) refl ∙ f.before;
        from_here = λ more. head_null (42 ∷ 45 ∷ (f.front ++ f.byte ∷ more)) refl ∙ f.from_here more;
        expects = inr (f.expects.0, (45 ∷ f.front, refl, (not_feed 45 45 refl (omega arith), f.expects.1)));
      }
  | inr plain ↦
      let f : FirstBad (Option ℕ) counted (ExpectsLine 42 kinds.Count) bytes bad kind = reads_counted.bad bytes bad kind (sym (head_line bytes plain) ∙ e) in
      let split : begins_null (f.front ++ f.byte ∷ f.behind) ≡ false = ap begins_null (sym f.whole) ∙ plain in
      record {
        front = f.front;
        byte = f.byte;
        behind = f.behind;
        bad_is = f.bad_is;
        whole = f.whole;
        before = head_line f.front (not_null_before f.front (f.byte ∷ f.behind) split) ∙ f.before;
        from_here = λ more. head_line (f.front ++ f.byte ∷ more) (not_null_with f.front f.byte f.behind more kind split (f.from_here [])) ∙ f.from_here more;
        expects = f.expects;
      }
]

pub reads_head : Reads (Option ℕ) head IsHead (ExpectsLine 42 kinds.Count)
reads_head = record { sent = head_sent; spelled = head_spelled; more = head_more; bad = head_bad }
