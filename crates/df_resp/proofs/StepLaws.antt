-- How a step takes a frame's line or a word.
use Rattle.std.proofs.Common.{◌≡◌, ℕ, suc, ◌+◌, ◌-◌, ◌^◌, ◌<◌, ◌≤◌, ◌⊎◌, inl, inr, false, cond, [], ◌∷◌, ◌++◌, length, take, drop, refl, sym, ap, subst, ◌∙◌, arith, append_assoc, append-nil, length-append}
use Rattle.std.specs.Prelude.{◌==◌, Option, Some, None}
use Rattle.std.specs.List.{flat_map, AllByRecursion}
use Rattle.std.specs.Fmt.{decimal}
use Rattle.std.proofs.lemmas.Grind.{common_steps}
use Rattle.std.proofs.lemmas.List.{drop-take, take-take}
use Rattle.std.proofs.lemmas.List.Concat.{flat_map-append}
use Rattle.df_model.specs.Values.{Bytes}
use Rattle.df_model.specs.Words.{Words}
use Rattle.df_model.specs.Framing.{Frame, sent, words_of, sent_word, sent_request, total_length, IsWord, IsRequest, Splits, MAX_WORDS, MAX_WORD, MAX_REQUEST}
use Rattle.df_model.specs.declared.session.BadKind.{BadKind}
use Rattle.df_model.proofs.FramingLaws.{no_split, splits_wordless, splits_request}
use Rattle.df_resp.specs.Scan.{Scan, and_then}
use Rattle.df_resp.specs.Frames.{word, room, words, head, behind_head, frame}
use Rattle.df_resp.specs.Seen.{count_of, SeesHead, SeesWord}
use Rattle.df_resp.specs.declared.front.Seen.TheVariants.{Whole as SeenWhole}
use Rattle.df_resp.specs.Stream.{front, joined, Fits}
use Rattle.df_resp.proofs.Languages.{Spelled}
use Rattle.df_resp.proofs.HeadLaws.{either, none_at, some_at, IsHead, reads_head}
use Rattle.df_resp.proofs.LineLaws.{IsLine}
use Rattle.df_resp.proofs.WordLaws.{IsSentWord, reads_word}
use Rattle.df_resp.proofs.FrameLaws.{IsSent, reads_frame}

front_is : (n : ℕ) (ws : Words) (bytes : Bytes) → front n ws ++ bytes ≡ (42 ∷ decimal n ++ 13 ∷ 10 ∷ []) ++ (flat_map sent_word ws ++ bytes)
front_is n ws bytes = simp append_assoc

inside : (missing : ℕ) (ws : Words) (bytes : Bytes) → 0 < missing → joined missing ws bytes ≡ front (length ws + missing) ws ++ bytes
inside missing ws bytes some = let nonzero : (missing == 0) ≡ false = grind arith in ap (λ t. cond t bytes (front (length ws + missing) ws ++ bytes)) nonzero

-- ---- a frame's line

pub record LineTaken (old : Bytes) (missing total : ℕ) (ws : Words) (new : Bytes) : Type 0 where
  pub sound : Fits missing total ws
  pub splits : Splits old [] (joined missing ws new)
  pub same : 0 < missing → joined missing ws new ≡ old

no_frame : (old new : Bytes) (f : Frame) → frame old ≡ Scan.Whole f new → (f ≡ Frame.NoWords) ⊎ (f ≡ Frame.NullWords) → Splits old [] new
no_frame old new f e is =
    let s : Spelled Frame IsSent f old new = reads_frame.spelled old f new e in
    let whole : old ≡ sent f ++ new = s.whole ∙ ap (λ x. x ++ new) s.is.1 in
    elim is [
      | inl plain ↦ splits_wordless f old new s.is.0 (ap words_of plain) whole
      | inr null ↦ splits_wordless f old new s.is.0 (ap words_of null) whole
    ]

skipped : (old new : Bytes) (total : ℕ) (ws : Words) (f : Frame) → Fits 0 total ws → frame old ≡ Scan.Whole f new → (f ≡ Frame.NoWords) ⊎ (f ≡ Frame.NullWords) → LineTaken old 0 total ws new
skipped old new total ws f sound e is = record { sound = sound; splits = no_frame old new f e is; same = λ some. absurd (omega (arith, some)) }

line_of : (n : ℕ) (count : Option ℕ) (text : Bytes) → count ≡ Some n → IsHead count text → IsLine 42 MAX_WORDS n text
line_of n count text is (inl head) = (let same : head.0 ≡ n = cc in subst (λ k. IsLine 42 MAX_WORDS k text) same head.2)
line_of n count text is (inr head) = cc

started : (old new : Bytes) (n total : ℕ) (ws : Words) → Fits 0 total ws → 0 < n → head old ≡ Scan.Whole (Some n) new → LineTaken old n total ws new
started old new n total ws sound some e =
    let s : Spelled (Option ℕ) IsHead (Some n) old new = reads_head.spelled old (Some n) new e in
    let line : IsLine 42 MAX_WORDS n s.text = line_of n (Some n) s.text refl s.is in
    let none : ws ≡ [] = sound.idle refl in
    let no_total : total ≡ 0 = sound.total_is ∙ ap total_length none in
    let alone : length ws + n ≡ n = omega (arith, ap length none) in
    let same : joined n ws new ≡ old = inside n ws new some ∙ ap (λ k. front k ws ++ new) alone ∙ ap (λ x. front n x ++ new) none ∙ front_is n [] new ∙ ap (λ x. x ++ new) (sym line.1) ∙ sym s.whole in
    record {
      sound = record { each = sound.each; total_is = sound.total_is; fits = sound.fits; count = omega (arith, line.0, ap length none); idle = λ z. absurd (omega (arith, z, some)) };
      splits = subst (Splits old []) (sym same) (no_split old);
      same = λ _. same;
    }

pub line_taken : (old new : Bytes) (n total : ℕ) (ws : Words) (count : Option ℕ) → Fits 0 total ws → n ≡ count_of count → head old ≡ Scan.Whole count new → LineTaken old n total ws new
line_taken old new n total ws None sound is e =
    subst (λ k. LineTaken old k total ws new) (sym is) (skipped old new total ws Frame.NullWords sound (ap (λ x. and_then x behind_head) e) (inr refl))
line_taken old new n total ws (Some m) sound is e = elim (either (m == 0)) [
  | inl t ↦
      let zero_is : m ≡ 0 = none_at m t in
      let found : frame old ≡ Scan.Whole Frame.NoWords new = ap (λ x. and_then x behind_head) e ∙ ap (λ c. cond c (Scan.Whole Frame.NoWords new) (words m 0 [] new)) t in
      subst (λ k. LineTaken old k total ws new) (sym (is ∙ zero_is)) (skipped old new total ws Frame.NoWords sound found (inl refl))
  | inr f ↦
      let some : 0 < m = some_at m f in
      subst (λ k. LineTaken old k total ws new) (sym is) (started old new m total ws sound some e)
]

-- what was seen and then taken
pub line_seen : (old new seen : Bytes) (n used missing total : ℕ) (ws : Words) → Fits missing total ws → missing ≡ 0 → seen ≡ old → SeesHead (SeenWhole n used) seen → new ≡ drop used old → LineTaken old n total ws new
line_seen old new seen n used missing total ws sound between same sees rest =
    let head_is : SeesHead (SeenWhole n used) old = subst (SeesHead (SeenWhole n used)) same sees in
    line_taken old new n total ws head_is.2.0 (subst (λ k. Fits k total ws) between sound) head_is.2.1 (head_is.2.2 ∙ ap (Scan.Whole head_is.2.0) (sym rest))

-- ---- inside a request

room_small : (total : ℕ) → room total < 2 ^ 32
room_small total = omega arith

words-sent : (ws : Words) (k total : ℕ) (done : Words) (bytes : Bytes) → AllByRecursion IsWord ws → total + total_length ws ≤ MAX_REQUEST → words (length ws + k) total done (flat_map sent_word ws ++ bytes) ≡ words k (total + total_length ws) (done ++ ws) bytes
words-sent [] k total done bytes each sum =
    let a : 0 + k ≡ k = omega arith in
    let b : total + 0 ≡ total = omega arith in
    rw (a, b, append-nil done) refl
words-sent (w ∷ ws) k total done bytes each sum =
    let one : length (w ∷ ws) + k ≡ suc (length ws + k) = omega arith in
    let fits : length w ≤ room total = omega (arith, sum, each.0) in
    let left : (total + length w) + total_length ws ≤ MAX_REQUEST = omega (arith, sum) in
    let same : (total + length w) + total_length ws ≡ total + (length w + total_length ws) = omega arith in
    let next : words (suc (length ws + k)) total done (sent_word w ++ (flat_map sent_word ws ++ bytes)) ≡ words (length ws + k) (total + length w) (done ++ w ∷ []) (flat_map sent_word ws ++ bytes) =
    ap (λ s. and_then s (λ v rest. words (length ws + k) (total + length v) (done ++ v ∷ []) rest)) ((reads_word (room total) (room_small total)).sent w (sent_word w) (flat_map sent_word ws ++ bytes) (fits, refl)) in
    ap (λ j. words j total done ((sent_word w ++ flat_map sent_word ws) ++ bytes)) one
    ∙ ap (words (suc (length ws + k)) total done) (append_assoc (sent_word w) (flat_map sent_word ws) bytes)
    ∙ next
    ∙ words-sent ws k (total + length w) (done ++ w ∷ []) bytes each.1 left
    ∙ ap (λ t. words k t ((done ++ w ∷ []) ++ ws) bytes) same
    ∙ ap (λ d. words k (total + (length w + total_length ws)) d bytes) (append_assoc done (w ∷ []) ws)

-- inside a request the frame is what its missing words make of the buffer
at_hand : (missing total : ℕ) (ws : Words) (bytes : Bytes) → 0 < missing → Fits missing total ws → frame (joined missing ws bytes) ≡ words missing total ws bytes
at_hand missing total ws bytes some s =
    let n : ℕ = length ws + missing in
    let rest : Bytes = flat_map sent_word ws ++ bytes in
    let nonzero : (length ws + missing == 0) ≡ false = grind arith in
    let line : head ((42 ∷ decimal (length ws + missing) ++ 13 ∷ 10 ∷ []) ++ (flat_map sent_word ws ++ bytes)) ≡ Scan.Whole (Some (length ws + missing)) (flat_map sent_word ws ++ bytes) =
    reads_head.sent (Some (length ws + missing)) (42 ∷ decimal (length ws + missing) ++ 13 ∷ 10 ∷ []) (flat_map sent_word ws ++ bytes) (inl (length ws + missing, refl, (s.count, refl))) in
    let same : 0 + total_length ws ≡ total = omega (arith, s.total_is) in
    let fit : 0 + total_length ws ≤ MAX_REQUEST = omega (arith, s.total_is, s.fits) in
    ap frame (inside missing ws bytes some ∙ front_is (length ws + missing) ws bytes)
    ∙ ap (λ x. and_then x behind_head) line
    ∙ ap (λ t. cond t (Scan.Whole Frame.NoWords (flat_map sent_word ws ++ bytes)) (words (length ws + missing) 0 [] (flat_map sent_word ws ++ bytes))) nonzero
    ∙ words-sent ws missing 0 [] bytes s.each fit
    ∙ ap (λ t. words missing t ws bytes) same

next_word : (missing total : ℕ) (ws : Words) (bytes : Bytes) → 0 < missing → words missing total ws bytes ≡ and_then (word (room total) bytes) (λ w rest. words (missing - 1) (total + length w) (ws ++ w ∷ []) rest)
next_word missing total ws bytes some = let e : missing ≡ suc (missing - 1) = omega arith in ap (λ j. words j total ws bytes) e

pub more_inside : (missing total : ℕ) (ws : Words) (bytes : Bytes) → 0 < missing → Fits missing total ws → word (room total) bytes ≡ Scan.More → frame (joined missing ws bytes) ≡ Scan.More
more_inside missing total ws bytes some s e = at_hand missing total ws bytes some s ∙ next_word missing total ws bytes some ∙ ap (λ x. and_then x (λ w rest. words (missing - 1) (total + length w) (ws ++ w ∷ []) rest)) e

pub bad_inside : (missing total : ℕ) (ws : Words) (bytes bad : Bytes) (kind : BadKind) → 0 < missing → Fits missing total ws → word (room total) bytes ≡ Scan.Bad bad kind → frame (joined missing ws bytes) ≡ Scan.Bad bad kind
bad_inside missing total ws bytes bad kind some s e = at_hand missing total ws bytes some s ∙ next_word missing total ws bytes some ∙ ap (λ x. and_then x (λ w rest. words (missing - 1) (total + length w) (ws ++ w ∷ []) rest)) e

-- ---- a word

taken_length : (n used : ℕ) (bytes : Bytes) → n + 2 < used → used ≤ length bytes → length (take n (drop (used - n - 2) bytes)) ≡ n
taken_length n used bytes room within = grind (arith, common_steps)

-- a word that was cut out of what was cut off
pub moved_word : (n used : ℕ) (bytes cut moved word : Bytes) → n + 2 < used → cut ≡ take used bytes → moved ≡ drop (used - n - 2) cut → word ≡ take n moved → word ≡ take n (drop (used - n - 2) bytes)
moved_word n used bytes cut moved word room c m w =
    let e : used ≡ used - n - 2 + (n + 2) = omega (arith, room) in
    w ∙ ap (take n) (m ∙ ap (drop (used - n - 2)) (c ∙ ap (λ k. take k bytes) e)) ∙ ap (take n) (drop-take (used - n - 2) (n + 2) bytes) ∙ take-take n (n + 2) (drop (used - n - 2) bytes) (omega arith)

pub word_taken : (limit n used : ℕ) (old w new : Bytes) → limit < 2 ^ 32 → n + 2 < used → used ≤ length old → w ≡ take n (drop (used - n - 2) old) → new ≡ drop used old
    → word limit old ≡ Scan.Whole (take n (drop (used - n - 2) old)) (drop used old) → (n ≡ length w) × (n ≤ limit) × (old ≡ sent_word w ++ new)
word_taken limit n used old w new small room within is rest e =
    let s : Spelled Bytes (IsSentWord limit) w old new = (reads_word limit small).spelled old w new (e ∙ ap (λ x. Scan.Whole x (drop used old)) (sym is) ∙ ap (Scan.Whole w) (sym rest)) in
    let len : n ≡ length w = sym (taken_length n used old room within) ∙ ap length (sym is) in
    (len, subst (λ k. k ≤ limit) (sym len) s.is.0, s.whole ∙ ap (λ x. x ++ new) s.is.1)

pub record WordTaken (total n : ℕ) (ws has : Words) (old new : Bytes) : Type 0 where
  pub word : Bytes
  pub len : n ≡ length word
  pub fits : n ≤ room total
  pub has_is : has ≡ ws ++ word ∷ []
  pub spelled : old ≡ sent_word word ++ new

-- what was seen and then taken
pub word_seen : (total n used limit : ℕ) (ws has : Words) (old seen new : Bytes) → limit ≡ room total → seen ≡ old → SeesWord (SeenWhole n used) seen (word limit seen) → has ≡ ws ++ take n (drop (used - n - 2) old) ∷ [] → new ≡ drop used old → WordTaken total n ws has old new
word_seen total n used limit ws has old seen new most same sees has_is rest =
    let at : SeesWord (SeenWhole n used) old (word (room total) old) = subst (λ k. SeesWord (SeenWhole n used) old (word k old)) most (subst (λ x. SeesWord (SeenWhole n used) x (word limit x)) same sees) in
    let taken : (n ≡ length (take n (drop (used - n - 2) old))) × (n ≤ room total) × (old ≡ sent_word (take n (drop (used - n - 2) old)) ++ new) =
    word_taken (room total) n used old (take n (drop (used - n - 2) old)) new (room_small total) at.0 at.1 refl rest at.2 in
    record { word = take n (drop (used - n - 2) old); len = taken.0; fits = taken.1; has_is = has_is; spelled = taken.2 }

each_more : (ws : Words) (w : Bytes) → AllByRecursion IsWord ws → length w ≤ MAX_WORD → AllByRecursion IsWord (ws ++ w ∷ [])
each_more [] w each short = (short, tt)
each_more (x ∷ ws) w each short = (each.0, each_more ws w each.1 short)

total_more : (ws : Words) (w : Bytes) → total_length (ws ++ w ∷ []) ≡ total_length ws + length w
total_more [] w = omega arith
total_more (x ∷ ws) w = let ih : total_length (ws ++ w ∷ []) ≡ total_length ws + length w = total_more ws w in omega arith

pub one_more_word : (missing total n : ℕ) (ws has : Words) (w : Bytes) → Fits missing total ws → 0 < missing - 1 → n ≡ length w → n ≤ room total → has ≡ ws ++ w ∷ [] → Fits (missing - 1) (total + n) has
one_more_word missing total n ws has w s some len le is =
    let short : length w ≤ MAX_WORD = omega arith in
    let count : length (ws ++ w ∷ []) ≡ length ws + 1 = omega (arith, length-append ws (w ∷ [])) in
    let new : Fits (missing - 1) (total + n) (ws ++ w ∷ []) = record {
      each = each_more ws w s.each short;
      total_is = omega (arith, s.total_is, total_more ws w);
      fits = omega (arith, s.fits);
      count = omega (arith, s.count);
      idle = λ z. absurd (omega arith);
    } in
    subst (Fits (missing - 1) (total + n)) (sym is) new

front_more : (n : ℕ) (ws : Words) (w bytes : Bytes) → front n ws ++ (sent_word w ++ bytes) ≡ front n (ws ++ w ∷ []) ++ bytes
front_more n ws w bytes =
    front_is n ws (sent_word w ++ bytes)
    ∙ ap (λ x. (42 ∷ decimal n ++ 13 ∷ 10 ∷ []) ++ x) (sym (append_assoc (flat_map sent_word ws) (sent_word w) bytes) ∙ ap (λ x. (flat_map sent_word ws ++ x) ++ bytes) (sym (append-nil (sent_word w))) ∙ ap (λ x. x ++ bytes) (sym (flat_map-append sent_word ws (w ∷ []))))
    ∙ sym (front_is n (ws ++ w ∷ []) bytes)

-- a word that moves from the buffer to the words leaves what is left of the stream
pub rest_stays : (missing : ℕ) (ws has : Words) (w old new : Bytes) → 0 < missing - 1 → has ≡ ws ++ w ∷ [] → old ≡ sent_word w ++ new → joined (missing - 1) has new ≡ joined missing ws old
rest_stays missing ws has w old new some is spelled =
    let more : 0 < missing = omega arith in
    let count : length (ws ++ w ∷ []) + (missing - 1) ≡ length ws + missing = omega (arith, length-append ws (w ∷ [])) in
    sym (inside missing ws old more ∙ ap (λ x. front (length ws + missing) ws ++ x) spelled ∙ front_more (length ws + missing) ws w new ∙ ap (λ k. front k (ws ++ w ∷ []) ++ new) (sym count)
    ∙ sym (inside (missing - 1) (ws ++ w ∷ []) new some) ∙ ap (λ x. joined (missing - 1) x new) (sym is))

request_is : (ws : Words) (bytes : Bytes) → front (length ws) ws ++ bytes ≡ sent_request ws ++ bytes
request_is ws bytes = simp append_assoc

-- the last word makes the request whole
pub request_whole : (missing total n : ℕ) (ws has given : Words) (w old new rest : Bytes) → Fits missing total ws → 0 < missing → missing - 1 ≡ 0 → n ≡ length w → n ≤ room total → has ≡ ws ++ w ∷ [] → given ≡ has → old ≡ sent_word w ++ new → rest ≡ new → Splits (joined missing ws old) (given ∷ []) rest
request_whole missing total n ws has given w old new rest s some last len le is g spelled r =
    let short : length w ≤ MAX_WORD = omega arith in
    let count : length (ws ++ w ∷ []) ≡ length ws + missing = omega (arith, length-append ws (w ∷ [])) in
    let request : IsRequest (ws ++ w ∷ []) = record {
      some = omega arith;
      count = omega (arith, s.count);
      each = each_more ws w s.each short;
      total = omega (arith, s.total_is, s.fits, total_more ws w);
    } in
    let whole : joined missing ws old ≡ sent_request (ws ++ w ∷ []) ++ new =
    inside missing ws old some ∙ ap (λ x. front (length ws + missing) ws ++ x) spelled ∙ front_more (length ws + missing) ws w new ∙ ap (λ k. front k (ws ++ w ∷ []) ++ new) (sym count) ∙ request_is (ws ++ w ∷ []) new in
    let splits : Splits (joined missing ws old) ((ws ++ w ∷ []) ∷ []) new = splits_request (ws ++ w ∷ []) (joined missing ws old) new request whole in
    subst (λ x. Splits (joined missing ws old) (given ∷ []) x) (sym r) (subst (λ x. Splits (joined missing ws old) (x ∷ []) new) (sym (g ∙ is)) splits)
