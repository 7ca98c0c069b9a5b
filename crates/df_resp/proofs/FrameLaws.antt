-- What reading a frame reads.
use Rattle.std.proofs.Common.{◌≡◌, ℕ, ◌<◌, ◌≤◌, ◌⊎◌, inl, inr, true, false, cond, [], ◌∷◌, ◌++◌, length, refl, sym, ap, subst, ◌∙◌, arith, append_assoc, append-nil}
use Rattle.std.specs.Prelude.{◌==◌, Option, Some, None}
use Rattle.std.specs.List.{flat_map}
use Rattle.std.specs.Fmt.{decimal}
use Rattle.df_model.specs.Values.{Bytes}
use Rattle.df_model.specs.Words.{Words}
use Rattle.df_model.specs.Framing.{Frame, sent_word, sent_count, sent_request, sent, IsFrame, IsRequest, MAX_WORDS}
use Rattle.df_model.specs.BadInput.{Expects}
use Rattle.df_model.specs.declared.session.BadKind.{BadKind}
use Rattle.df_model.specs.declared.session.BadKind.TheVariants as kinds
use Rattle.df_resp.specs.Scan.{Scan}
use Rattle.df_resp.specs.Lines.{line}
use Rattle.df_resp.specs.Frames.{word, words, head, behind_head, frame}
use Rattle.df_resp.proofs.Languages.{Reads, IsGiven, NeverBad, reads_given, reads_as, Some as SomeOf, Both, InEither, reads_both, reads_same}
use Rattle.df_resp.proofs.WordLaws.{ExpectsWord, zero_digit, AreWords, ExpectsWords, some_words, reads_words}
use Rattle.df_resp.proofs.HeadLaws.{either, none_at, some_at, IsHead, reads_head}
use Rattle.df_resp.proofs.LineLaws.{IsLine, ExpectsLine}

-- ---- what stands behind a frame's line

abbrev pub IsBehind : Option ℕ → Frame → Bytes → Type 0
IsBehind None f text = IsGiven Frame Frame.NullWords f text
IsBehind (Some n) f text = ((n ≡ 0) × IsGiven Frame Frame.NoWords f text) ⊎ ((0 < n) × AreWords n 0 [] f text)

abbrev pub ExpectsBehind : Option ℕ → Bytes → BadKind → Type 0
ExpectsBehind None front kind = ⊥
ExpectsBehind (Some n) front kind = ExpectsWords n front kind

behind_of_none : (n : ℕ) → (n == 0) ≡ true → (f : Frame) (text : Bytes) → IsBehind (Some n) f text → IsGiven Frame Frame.NoWords f text
behind_of_none n e f text (inl is) = is.1
behind_of_none n e f text (inr is) = absurd (omega (arith, none_at n e, is.0))

behind_of_words : (n : ℕ) → (n == 0) ≡ false → (f : Frame) (text : Bytes) → IsBehind (Some n) f text → AreWords n 0 [] f text
behind_of_words n e f text (inl is) = absurd (let zero_is : (n == 0) ≡ true = ap (λ k. k == 0) is.0 in let h : true ≡ false = sym zero_is ∙ e in cc)
behind_of_words n e f text (inr is) = is.1

reads_behind : (count : Option ℕ) → Reads Frame (behind_head count) (IsBehind count) (ExpectsBehind count)
reads_behind None = reads_given Frame Frame.NullWords
reads_behind (Some n) = elim (either (n == 0)) [
  | inl t ↦
      let is : n ≡ 0 = none_at n t in
      reads_as Frame (behind_head (Some n)) (IsGiven Frame Frame.NoWords) (IsBehind (Some n)) NeverBad (ExpectsBehind (Some n))
      (λ f text given. inl (is, given)) (behind_of_none n t) (λ front kind e. absurd e)
      (reads_same Frame (λ bytes. Scan.Whole Frame.NoWords bytes) (behind_head (Some n)) (IsGiven Frame Frame.NoWords) NeverBad (λ bytes. ap (λ c. cond c (Scan.Whole Frame.NoWords bytes) (words n 0 [] bytes)) t) (reads_given Frame Frame.NoWords))
  | inr f ↦
      let some : 0 < n = some_at n f in
      reads_as Frame (behind_head (Some n)) (AreWords n 0 []) (IsBehind (Some n)) (ExpectsWords n) (ExpectsBehind (Some n))
      (λ g text are. inr (some, are)) (behind_of_words n f) (λ front kind e. e)
      (reads_same Frame (words n 0 []) (behind_head (Some n)) (AreWords n 0 []) (ExpectsWords n) (λ bytes. ap (λ c. cond c (Scan.Whole Frame.NoWords bytes) (words n 0 [] bytes)) f) (reads_words n 0 [] (omega arith)))
]

some_behind : (count : Option ℕ) → SomeOf Frame (IsBehind count)
some_behind None = record { b = Frame.NullWords; text = []; is = (refl, refl) }
some_behind (Some n) = elim (either (n == 0)) [
  | inl t ↦ let is : n ≡ 0 = none_at n t in record { b = Frame.NoWords; text = []; is = inl (is, (refl, refl)) }
  | inr f ↦ let some : 0 < n = some_at n f in let w : SomeOf Frame (AreWords n 0 []) = some_words n 0 [] (omega arith) in record { b = w.b; text = w.text; is = inr (some, w.is) }
]

-- ---- a frame

abbrev pub IsSent : Frame → Bytes → Type 0
IsSent f text = IsFrame f × (text ≡ sent f)

sent_request_is : (ws : Words) → sent_request ws ≡ (42 ∷ decimal (length ws) ++ 13 ∷ 10 ∷ []) ++ flat_map sent_word ws
sent_request_is ws = refl

request_of : (n : ℕ) (f : Frame) (text first second : Bytes) → n ≤ MAX_WORDS → 0 < n → AreWords n 0 [] f second → first ≡ 42 ∷ decimal n ++ 13 ∷ 10 ∷ [] → text ≡ first ++ second → IsSent f text
request_of n f text first second most some are line whole =
    let request : IsRequest are.ws = record { some = subst (λ x. 0 < x) (sym are.len) some; count = subst (λ x. x ≤ MAX_WORDS) (sym are.len) most; each = are.each; total = omega (arith, are.sum) } in (
      subst IsFrame (sym are.frame_is) request,
      whole ∙ ap (λ x. x ++ second) (line ∙ ap (λ k. 42 ∷ decimal k ++ 13 ∷ 10 ∷ []) (sym are.len)) ∙ ap (λ x. (42 ∷ decimal (length are.ws) ++ 13 ∷ 10 ∷ []) ++ x) are.spelled ∙ sym (sent_request_is are.ws) ∙ ap sent (sym are.frame_is),
    )

no_words_of : (n : ℕ) (f : Frame) (text first second : Bytes) → n ≡ 0 → IsGiven Frame Frame.NoWords f second → first ≡ 42 ∷ decimal n ++ 13 ∷ 10 ∷ [] → text ≡ first ++ second → IsSent f text
no_words_of n f text first second none given line whole = (
  subst IsFrame (sym given.0) tt,
  whole ∙ ap (λ x. first ++ x) given.1 ∙ append-nil first ∙ line ∙ ap (λ k. 42 ∷ decimal k ++ 13 ∷ 10 ∷ []) none ∙ ap (λ d. 42 ∷ d ++ 13 ∷ 10 ∷ []) zero_digit ∙ ap sent (sym given.0),
)

counted_frame : (n : ℕ) (f : Frame) (text first second : Bytes) → IsLine 42 MAX_WORDS n first → IsBehind (Some n) f second → text ≡ first ++ second → IsSent f text
counted_frame n f text first second line (inl is) whole = no_words_of n f text first second is.0 is.1 line.1 whole
counted_frame n f text first second line (inr is) whole = request_of n f text first second line.0 is.0 is.1 line.1 whole

null_frame : (f : Frame) (text first second : Bytes) → first ≡ 42 ∷ 45 ∷ 49 ∷ 13 ∷ 10 ∷ [] → IsGiven Frame Frame.NullWords f second → text ≡ first ++ second → IsSent f text
null_frame f text first second line given whole = (subst IsFrame (sym given.0) tt, whole ∙ ap (λ x. first ++ x) given.1 ∙ append-nil first ∙ line ∙ ap sent (sym given.0))

frame_of : (f : Frame) (text : Bytes) → Both (Option ℕ) Frame IsHead IsBehind f text → IsSent f text
frame_of f text b = elim b.first_is [
  | inl is ↦ counted_frame is.0 f text b.first b.second is.2 (subst (λ c. IsBehind c f b.second) is.1 b.second_is) b.whole
  | inr is ↦ null_frame f text b.first b.second is.1 (subst (λ c. IsBehind c f b.second) is.0 b.second_is) b.whole
]

of_frame : (f : Frame) (text : Bytes) → IsSent f text → Both (Option ℕ) Frame IsHead IsBehind f text
of_frame Frame.NoWords text is = record { a = Some 0; first = text; second = []; first_is = inl (0, refl, (omega arith, is.1 ∙ ap (λ d. 42 ∷ d ++ 13 ∷ 10 ∷ []) (sym zero_digit))); second_is = inl (refl, (refl, refl)); whole = sym (append-nil text) }
of_frame Frame.NullWords text is = record { a = None; first = text; second = []; first_is = inr (refl, is.1); second_is = (refl, refl); whole = sym (append-nil text) }
of_frame (Frame.Request ws) text is = record {
  a = Some (length ws);
  first = 42 ∷ decimal (length ws) ++ 13 ∷ 10 ∷ [];
  second = flat_map sent_word ws;
  first_is = inl (length ws, refl, (is.0.count, refl));
  second_is = inr (is.0.some, record { ws = ws; frame_is = refl; len = refl; each = is.0.each; sum = omega (arith, is.0.total); spelled = refl });
  whole = is.1;
}

expects_line : (front : Bytes) (kind : BadKind) → ExpectsLine 42 kinds.Count front kind → Expects front kind
expects_line front kind (inl e) = subst (λ x. Expects x kind) (sym e.1) (subst (Expects []) (sym e.0) (Expects.request []))
expects_line front kind (inr e) = subst (λ x. Expects x kind) (sym e.1.1) (subst (Expects (42 ∷ e.1.0)) (sym e.0) (Expects.count [] e.1.0 e.1.2))

expects_word : (n : ℕ) (begun : Words) (last : Bytes) (kind : BadKind) → length begun < n → ExpectsWord last kind → Expects ((sent_count n ++ flat_map sent_word begun) ++ last) kind
expects_word n begun [] kinds.Start fewer ExpectsWord.mark = subst (λ x. Expects x kinds.Start) (sym (append-nil (sent_count n ++ flat_map sent_word begun))) (Expects.word [] n begun fewer)
expects_word n begun _ _ fewer (ExpectsWord.length_line line un) = Expects.length_line [] n begun line fewer un
expects_word n begun _ _ fewer (ExpectsWord.cr word) = Expects.word_cr [] n begun word fewer
expects_word n begun _ _ fewer (ExpectsWord.lf word) = Expects.word_lf [] n begun word fewer

expects_words : (n : ℕ) (front first second : Bytes) (kind : BadKind) → first ≡ 42 ∷ decimal n ++ 13 ∷ 10 ∷ [] → ExpectsWords n second kind → front ≡ first ++ second → Expects front kind
expects_words n front first second kind line e whole =
    subst (λ x. Expects x kind) (sym (whole ∙ ap (λ x. x ++ second) line ∙ ap (λ x. sent_count n ++ x) e.whole ∙ sym (append_assoc (sent_count n) (flat_map sent_word e.begun) e.last))) (expects_word n e.begun e.last kind e.fewer e.word)

frame_expects : (front : Bytes) (kind : BadKind) → InEither (Option ℕ) IsHead (ExpectsLine 42 kinds.Count) ExpectsBehind front kind → Expects front kind
frame_expects front kind (inl e) = expects_line front kind e
frame_expects front kind (inr b) = elim b.first_is [
  | inl is ↦ expects_words is.0 front b.first b.second kind is.2.1 (subst (λ c. ExpectsBehind c b.second kind) is.1 b.expects) b.whole
  | inr is ↦ absurd (subst (λ c. ExpectsBehind c b.second kind) is.0 b.expects)
]

-- Frames are read as they are sent, and what is bad is bad from the byte on at which nothing that the grammar expects stands.
pub reads_frame : Reads Frame frame IsSent Expects
reads_frame =
    reads_as Frame frame (Both (Option ℕ) Frame IsHead IsBehind) IsSent (InEither (Option ℕ) IsHead (ExpectsLine 42 kinds.Count) ExpectsBehind) Expects
    frame_of of_frame frame_expects
    (reads_both (Option ℕ) Frame head behind_head IsHead IsBehind (ExpectsLine 42 kinds.Count) ExpectsBehind reads_head (λ count _ _. reads_behind count) (λ count _ _. some_behind count))
