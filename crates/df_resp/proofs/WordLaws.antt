-- What reading words reads.
use Rattle.std.proofs.Common.{◌≡◌, ℕ, zero, suc, ◌+◌, ◌^◌, ◌<◌, ◌≤◌, ◌⊎◌, inl, inr, [], ◌∷◌, ◌++◌, length, refl, sym, ap, subst, ◌∙◌, arith, append_assoc, append-nil, length-append}
use Rattle.std.specs.List.{flat_map, AllByRecursion}
use Rattle.std.specs.Fmt.{decimal}
use Rattle.std.proofs.lemmas.Fmt.{decimal_digit}
use Rattle.df_model.specs.Values.{Bytes}
use Rattle.df_model.specs.Words.{Words}
use Rattle.df_model.specs.Replies.{crlf}
use Rattle.df_model.specs.Framing.{Frame, total_length, sent_word, IsWord, MAX_WORD, MAX_REQUEST}
use Rattle.df_model.specs.BadInput.{IsUnended}
use Rattle.df_model.specs.declared.session.BadKind.{BadKind}
use Rattle.df_model.specs.declared.session.BadKind.TheVariants as kinds
use Rattle.df_resp.specs.Scan.{Scan, and_then, fixed, some_bytes}
use Rattle.df_resp.specs.Lines.{line}
use Rattle.df_resp.specs.Frames.{word_bytes, word, room, words}
use Rattle.df_resp.proofs.Languages.{Reads, IsGiven, NeverBad, reads_given, reads_as, Some as SomeOf, Both, InEither, reads_both}
use Rattle.df_resp.proofs.LineLaws.{IsText, ExpectsText, reads_fixed, AreSome, reads_some, IsLine, ExpectsLine, reads_line}

-- ---- a word's bytes and its end

abbrev pub IsEnded : Bytes → Bytes → Bytes → Type 0
IsEnded word given text = (given ≡ word) × (text ≡ crlf)

-- the carriage return or the line feed
abbrev pub ExpectsEnd : Bytes → BadKind → Type 0
ExpectsEnd front kind = (kind ≡ kinds.End) × ((front ≡ []) ⊎ (front ≡ 13 ∷ []))

ended_of : (word given : Bytes) (text : Bytes) → Both (Unit {0}) Bytes (IsText crlf) (λ _ n. IsGiven Bytes word n) given text → IsEnded word given text
ended_of word given text b = (b.second_is.0, b.whole ∙ ap (λ x. x ++ b.second) b.first_is ∙ ap (λ x. crlf ++ x) b.second_is.1)

of_ended : (word given : Bytes) (text : Bytes) → IsEnded word given text → Both (Unit {0}) Bytes (IsText crlf) (λ _ n. IsGiven Bytes word n) given text
of_ended word given text is = record { a = tt; first = crlf; second = []; first_is = refl; second_is = (is.0, refl); whole = is.1 }

before_end : (front more : Bytes) → 0 < length more → front ++ more ≡ 13 ∷ 10 ∷ [] → (front ≡ []) ⊎ (front ≡ 13 ∷ [])
before_end [] more some e = inl refl
before_end (x ∷ []) more some e = inr (let is : x ≡ 13 = cc in ap (λ y. y ∷ []) is)
before_end (x ∷ y ∷ front) more some e = absurd (omega (arith, ap length e, length-append (x ∷ y ∷ front) more, some))

end_expects : (front : Bytes) (k : BadKind) → InEither (Unit {0}) (IsText crlf) (ExpectsText kinds.End crlf) (λ _. NeverBad) front k → ExpectsEnd front k
end_expects front k (inl e) = (e.kind_is, before_end front e.more e.goes_on e.whole)
end_expects front k (inr b) = absurd b.expects

reads_end : (word : Bytes) → Reads Bytes (λ bytes. and_then (fixed kinds.End crlf bytes) (λ _ rest. Scan.Whole word rest)) (IsEnded word) ExpectsEnd
reads_end word =
    reads_as Bytes (λ bytes. and_then (fixed kinds.End crlf bytes) (λ _ rest. Scan.Whole word rest)) (Both (Unit {0}) Bytes (IsText crlf) (λ _ n. IsGiven Bytes word n)) (IsEnded word) (InEither (Unit {0}) (IsText crlf) (ExpectsText kinds.End crlf) (λ _. NeverBad)) ExpectsEnd
    (ended_of word) (of_ended word) end_expects
    (reads_both (Unit {0}) Bytes (fixed kinds.End crlf) (λ _ rest. Scan.Whole word rest) (IsText crlf) (λ _ n. IsGiven Bytes word n) (ExpectsText kinds.End crlf) (λ _. NeverBad) (reads_fixed kinds.End crlf)
    (λ _ _ _. reads_given Bytes word) (λ _ _ _. record { b = word; text = []; is = (refl, refl) }))

abbrev pub IsWordBytes : ℕ → Bytes → Bytes → Type 0
IsWordBytes n word text = (length word ≡ n) × (text ≡ word ++ crlf)

abbrev pub ExpectsWordEnd : ℕ → Bytes → BadKind → Type 0
ExpectsWordEnd n front kind = (kind ≡ kinds.End) × ((word : Bytes) × (length word ≡ n) × ((front ≡ word) ⊎ (front ≡ word ++ 13 ∷ [])))

bytes_of : (n : ℕ) (word text : Bytes) → Both Bytes Bytes (AreSome n) IsEnded word text → IsWordBytes n word text
bytes_of n word text b = (ap length b.second_is.0 ∙ b.first_is.0, b.whole ∙ ap (λ x. x ++ b.second) (b.first_is.1 ∙ sym b.second_is.0) ∙ ap (λ x. word ++ x) b.second_is.1)

of_bytes : (n : ℕ) (word text : Bytes) → IsWordBytes n word text → Both Bytes Bytes (AreSome n) IsEnded word text
of_bytes n word text is = record { a = word; first = word; second = crlf; first_is = (is.0, refl); second_is = (refl, refl); whole = is.1 }

bytes_expects : (n : ℕ) (front : Bytes) (k : BadKind) → InEither Bytes (AreSome n) NeverBad (λ _. ExpectsEnd) front k → ExpectsWordEnd n front k
bytes_expects n front k (inl e) = absurd e
bytes_expects n front k (inr b) = (
  b.expects.0,
  (
    b.a,
    b.first_is.0,
    elim b.expects.1 [
      | inl none ↦ inl (b.whole ∙ ap (λ x. x ++ b.second) b.first_is.1 ∙ ap (λ x. b.a ++ x) none ∙ append-nil b.a)
      | inr one ↦ inr (b.whole ∙ ap (λ x. x ++ b.second) b.first_is.1 ∙ ap (λ x. b.a ++ x) one)
    ],
  ),
)

reads_bytes : (n : ℕ) → Reads Bytes (word_bytes n) (IsWordBytes n) (ExpectsWordEnd n)
reads_bytes n =
    reads_as Bytes (word_bytes n) (Both Bytes Bytes (AreSome n) IsEnded) (IsWordBytes n) (InEither Bytes (AreSome n) NeverBad (λ _. ExpectsEnd)) (ExpectsWordEnd n)
    (bytes_of n) (of_bytes n) (bytes_expects n)
    (reads_both Bytes Bytes (some_bytes n) (λ word behind. and_then (fixed kinds.End crlf behind) (λ _ rest. Scan.Whole word rest)) (AreSome n) IsEnded NeverBad (λ _. ExpectsEnd) (reads_some n)
    (λ word _ _. reads_end word) (λ word _ _. record { b = word; text = crlf; is = (refl, refl) }))

-- ---- a word

-- a word as it is sent, regrouped
sent_word_is : (w : Bytes) → sent_word w ≡ (36 ∷ decimal (length w) ++ 13 ∷ 10 ∷ []) ++ (w ++ crlf)
sent_word_is w = simp append_assoc

abbrev pub IsSentWord : ℕ → Bytes → Bytes → Type 0
IsSentWord limit word text = (length word ≤ limit) × (text ≡ sent_word word)

-- what is expected in a word
pub data ExpectsWord : Bytes → BadKind → Type 0 where
  mark : ExpectsWord [] kinds.Start
  length_line : (line : Bytes) → IsUnended line → ExpectsWord (36 ∷ line) kinds.Length
  cr : (word : Bytes) → ExpectsWord (36 ∷ decimal (length word) ++ crlf ++ word) kinds.End
  lf : (word : Bytes) → ExpectsWord (36 ∷ decimal (length word) ++ crlf ++ word ++ 13 ∷ []) kinds.End

word_of : (limit : ℕ) (word text : Bytes) → Both ℕ Bytes (IsLine 36 limit) IsWordBytes word text → IsSentWord limit word text
word_of limit word text b = (
  subst (λ x. x ≤ limit) (sym b.second_is.0) b.first_is.0,
  b.whole ∙ ap (λ x. x ++ b.second) (b.first_is.1 ∙ ap (λ k. 36 ∷ decimal k ++ 13 ∷ 10 ∷ []) (sym b.second_is.0)) ∙ ap (λ x. (36 ∷ decimal (length word) ++ 13 ∷ 10 ∷ []) ++ x) b.second_is.1 ∙ sym (sent_word_is word),
)

of_word : (limit : ℕ) (word text : Bytes) → IsSentWord limit word text → Both ℕ Bytes (IsLine 36 limit) IsWordBytes word text
of_word limit word text is = record { a = length word; first = 36 ∷ decimal (length word) ++ 13 ∷ 10 ∷ []; second = word ++ crlf; first_is = (is.0, refl); second_is = (refl, refl); whole = is.1 ∙ sent_word_is word }

line_expects : (front : Bytes) (k : BadKind) → ExpectsLine 36 kinds.Length front k → ExpectsWord front k
line_expects front k (inl e) = subst (λ x. ExpectsWord x k) (sym e.1) (subst (ExpectsWord []) (sym e.0) ExpectsWord.mark)
line_expects front k (inr e) = subst (λ x. ExpectsWord x k) (sym e.1.1) (subst (ExpectsWord (36 ∷ e.1.0)) (sym e.0) (ExpectsWord.length_line e.1.0 e.1.2))

end_is : (word end : Bytes) → (36 ∷ decimal (length word) ++ 13 ∷ 10 ∷ []) ++ (word ++ end) ≡ 36 ∷ decimal (length word) ++ crlf ++ word ++ end
end_is word end = simp append_assoc

end_none : (word : Bytes) → (36 ∷ decimal (length word) ++ 13 ∷ 10 ∷ []) ++ word ≡ 36 ∷ decimal (length word) ++ crlf ++ word
end_none word = simp append_assoc

word_expects : (limit : ℕ) (front : Bytes) (k : BadKind) → InEither ℕ (IsLine 36 limit) (ExpectsLine 36 kinds.Length) ExpectsWordEnd front k → ExpectsWord front k
word_expects limit front k (inl e) = line_expects front k e
word_expects limit front k (inr b) =
    let w : Bytes = b.expects.1.0 in
    let begins : front ≡ (36 ∷ decimal (length w) ++ 13 ∷ 10 ∷ []) ++ b.second = b.whole ∙ ap (λ x. x ++ b.second) (b.first_is.1 ∙ ap (λ m. 36 ∷ decimal m ++ 13 ∷ 10 ∷ []) (sym b.expects.1.1)) in
    elim b.expects.1.2 [
      | inl e ↦ subst (λ x. ExpectsWord x k) (sym (begins ∙ ap (λ x. (36 ∷ decimal (length w) ++ 13 ∷ 10 ∷ []) ++ x) e ∙ end_none w)) (subst (ExpectsWord (36 ∷ decimal (length w) ++ crlf ++ w)) (sym b.expects.0) (ExpectsWord.cr w))
      | inr e ↦ subst (λ x. ExpectsWord x k) (sym (begins ∙ ap (λ x. (36 ∷ decimal (length w) ++ 13 ∷ 10 ∷ []) ++ x) e ∙ end_is w (13 ∷ []))) (subst (ExpectsWord (36 ∷ decimal (length w) ++ crlf ++ w ++ 13 ∷ [])) (sym b.expects.0) (ExpectsWord.lf w))
    ]

zeros : ℕ → Bytes
zeros zero = []
zeros (suc n) = 0 ∷ zeros n

length-zeros : (n : ℕ) → length (zeros n) ≡ n
unfolding zeros
length-zeros zero = refl
length-zeros (suc n) = let ih : length (zeros n) ≡ n = length-zeros n in omega arith

pub reads_word : (limit : ℕ) → limit < 2 ^ 32 → Reads Bytes (word limit) (IsSentWord limit) ExpectsWord
reads_word limit small =
    reads_as Bytes (word limit) (Both ℕ Bytes (IsLine 36 limit) IsWordBytes) (IsSentWord limit) (InEither ℕ (IsLine 36 limit) (ExpectsLine 36 kinds.Length) ExpectsWordEnd) ExpectsWord
    (word_of limit) (of_word limit) (word_expects limit)
    (reads_both ℕ Bytes (line 36 kinds.Length limit) word_bytes (IsLine 36 limit) IsWordBytes (ExpectsLine 36 kinds.Length) ExpectsWordEnd (reads_line 36 kinds.Length limit small)
    (λ n _ _. reads_bytes n) (λ n _ _. record { b = zeros n; text = zeros n ++ crlf; is = (length-zeros n, refl) }))

-- ---- words

pub zero_digit : decimal 0 ≡ 48 ∷ []
zero_digit = decimal_digit 0 (omega arith)

room_small : (total : ℕ) → room total < 2 ^ 32
room_small total = omega arith

room_fits : (total n : ℕ) → total + n ≤ MAX_REQUEST → n ≤ MAX_WORD → n ≤ room total
room_fits total n a b = omega arith

-- the words of a request behind those that were read
pub record AreWords (k total : ℕ) (done : Words) (f : Frame) (text : Bytes) : Type 0 where
  pub ws : Words
  pub frame_is : f ≡ Frame.Request (done ++ ws)
  pub len : length ws ≡ k
  pub each : AllByRecursion IsWord ws
  pub sum : total + total_length ws ≤ MAX_REQUEST
  pub spelled : text ≡ flat_map sent_word ws

pub record ExpectsWords (k : ℕ) (front : Bytes) (kind : BadKind) : Type 0 where
  pub begun : Words
  pub fewer : length begun < k
  pub last : Bytes
  pub word : ExpectsWord last kind
  pub whole : front ≡ flat_map sent_word begun ++ last

empties : ℕ → Words
empties zero = []
empties (suc k) = [] ∷ empties k

length-empties : (k : ℕ) → length (empties k) ≡ k
unfolding empties
length-empties zero = refl
length-empties (suc k) = let ih : length (empties k) ≡ k = length-empties k in omega arith

empties_short : (k : ℕ) → AllByRecursion IsWord (empties k)
unfolding empties
empties_short zero = tt
empties_short (suc k) = (omega arith, empties_short k)

sum-empties : (k : ℕ) → total_length (empties k) ≡ 0
unfolding empties
sum-empties zero = refl
sum-empties (suc k) = let ih : total_length (empties k) ≡ 0 = sum-empties k in omega arith

pub some_words : (k total : ℕ) (done : Words) → total ≤ MAX_REQUEST → SomeOf Frame (AreWords k total done)
some_words k total done le = record {
  b = Frame.Request (done ++ empties k);
  text = flat_map sent_word (empties k);
  is = record { ws = empties k; frame_is = refl; len = length-empties k; each = empties_short k; sum = omega (arith, sum-empties k, le); spelled = refl };
}

no_words : (ws : Words) → length ws ≡ 0 → ws ≡ []
no_words [] e = refl
no_words (w ∷ ws) e = absurd (omega (arith, e))

none_of : (total : ℕ) (done : Words) → total ≤ MAX_REQUEST → (f : Frame) (text : Bytes) → IsGiven Frame (Frame.Request done) f text → AreWords 0 total done f text
none_of total done le f text is = record { ws = []; frame_is = is.0 ∙ ap Frame.Request (sym (append-nil done)); len = refl; each = tt; sum = omega (arith, le); spelled = is.1 }

of_none : (total : ℕ) (done : Words) (f : Frame) (text : Bytes) → AreWords 0 total done f text → IsGiven Frame (Frame.Request done) f text
of_none total done f text are =
    let none : are.ws ≡ [] = no_words are.ws are.len in
    (are.frame_is ∙ ap (λ x. Frame.Request (done ++ x)) none ∙ ap Frame.Request (append-nil done), are.spelled ∙ ap (flat_map sent_word) none)

-- behind one more word
abbrev NextWords : ℕ → ℕ → Words → Bytes → Frame → Bytes → Type 0
NextWords k total done w = AreWords k (total + length w) (done ++ w ∷ [])

more_of : (k total : ℕ) (done : Words) (f : Frame) (text : Bytes) → Both Bytes Frame (IsSentWord (room total)) (NextWords k total done) f text → AreWords (suc k) total done f text
more_of k total done f text b = record {
  ws = b.a ∷ b.second_is.ws;
  frame_is = b.second_is.frame_is ∙ ap Frame.Request (append_assoc done (b.a ∷ []) b.second_is.ws);
  len = omega (arith, b.second_is.len);
  each = (omega (arith, b.first_is.0), b.second_is.each);
  sum = omega (arith, b.second_is.sum);
  spelled = b.whole ∙ ap (λ x. x ++ b.second) b.first_is.1 ∙ ap (λ x. sent_word b.a ++ x) b.second_is.spelled;
}

of_more : (k total : ℕ) (done : Words) (f : Frame) (text : Bytes) (ws : Words) → f ≡ Frame.Request (done ++ ws) → length ws ≡ suc k → AllByRecursion IsWord ws → total + total_length ws ≤ MAX_REQUEST → text ≡ flat_map sent_word ws → Both Bytes Frame (IsSentWord (room total)) (NextWords k total done) f text
of_more k total done f text [] is len each sum spelled = absurd (omega (arith, len))
of_more k total done f text (w ∷ ws) is len each sum spelled = record {
  a = w;
  first = sent_word w;
  second = flat_map sent_word ws;
  first_is = (room_fits total (length w) (omega (arith, sum)) each.0, refl);
  second_is = record { ws = ws; frame_is = is ∙ ap Frame.Request (sym (append_assoc done (w ∷ []) ws)); len = omega (arith, len); each = each.1; sum = omega (arith, sum); spelled = refl };
  whole = spelled;
}

words_expects : (k total : ℕ) (front : Bytes) (kind : BadKind) → InEither Bytes (IsSentWord (room total)) ExpectsWord (λ _. ExpectsWords k) front kind → ExpectsWords (suc k) front kind
words_expects k total front kind (inl e) = record { begun = []; fewer = omega arith; last = front; word = e; whole = refl }
words_expects k total front kind (inr b) = record {
  begun = b.a ∷ b.expects.begun;
  fewer = omega (arith, b.expects.fewer);
  last = b.expects.last;
  word = b.expects.word;
  whole = b.whole ∙ ap (λ x. x ++ b.second) b.first_is.1 ∙ ap (λ x. sent_word b.a ++ x) b.expects.whole ∙ sym (append_assoc (sent_word b.a) (flat_map sent_word b.expects.begun) b.expects.last);
}

pub reads_words : (k total : ℕ) (done : Words) → total ≤ MAX_REQUEST → Reads Frame (words k total done) (AreWords k total done) (ExpectsWords k)
reads_words zero total done le =
    reads_as Frame (words zero total done) (IsGiven Frame (Frame.Request done)) (AreWords 0 total done) NeverBad (ExpectsWords 0) (none_of total done le) (of_none total done) (λ front kind e. absurd e) (reads_given Frame (Frame.Request done))
reads_words (suc k) total done le =
    reads_as Frame (words (suc k) total done) (Both Bytes Frame (IsSentWord (room total)) (NextWords k total done)) (AreWords (suc k) total done) (InEither Bytes (IsSentWord (room total)) ExpectsWord (λ _. ExpectsWords k)) (ExpectsWords (suc k))
    (more_of k total done) (λ f text are. of_more k total done f text are.ws are.frame_is are.len are.each are.sum are.spelled) (words_expects k total)
    (reads_both Bytes Frame (word (room total)) (λ w rest. words k (total + length w) (done ++ w ∷ []) rest) (IsSentWord (room total)) (NextWords k total done) ExpectsWord (λ _. ExpectsWords k) (reads_word (room total) (room_small total))
    (λ w _ is. reads_words k (total + length w) (done ++ w ∷ []) (omega (arith, is.0, le)))
    (λ w _ is. some_words k (total + length w) (done ++ w ∷ []) (omega (arith, is.0, le))))
