-- Laws of framing that follow from reading frames one after another.
use Rattle.std.proofs.Common.{◌≡◌, ℕ, zero, suc, ◌+◌, ◌-◌, ◌<◌, ◌≤◌, List, [], ◌∷◌, ◌++◌, length, take, refl, sym, ap, subst, ◌∙◌, arith, append_assoc, append-nil, length-append}
use Rattle.std.specs.List.{flat_map, filter_map, AllByRecursion}
use Rattle.std.specs.Fmt.{decimal}
use Rattle.std.proofs.lemmas.List.Concat.{flat_map-append}
use Rattle.df_model.specs.Values.{Bytes}
use Rattle.df_model.specs.Words.{Words}
use Rattle.df_model.specs.Replies.{crlf}
use Rattle.df_model.specs.Framing.{Frame, sent, sent_word, sent_count, IsFrame, words_of, Splits, BeginsWhole, IsPartial, Framed, CanGoOn, IsBad}
use Rattle.df_model.proofs.FramingLaws.{no_split, splits_join, splits_more}
use Rattle.df_resp.specs.Laws.{EveryListIsFramed}
use Rattle.df_model.specs.BadInput.{Expects, BadAt}
use Rattle.df_model.specs.declared.session.BadKind.{BadKind}
use Rattle.df_model.specs.declared.session.BadKind.TheVariants as kinds
use Rattle.df_resp.specs.Scan.{Scan}
use Rattle.df_resp.specs.Frames.{frame}
use Rattle.df_resp.proofs.Languages.{Spelled}
use Rattle.df_resp.proofs.FrameLaws.{IsSent, reads_frame}
use Rattle.df_resp.proofs.RestLaws.{frame-sent, partial_goes_on, more_not_whole, bad_not_whole}

sent_some : (f : Frame) → 0 < length (sent f)
sent_some (Frame.Request words) = omega (arith, length-append (42 ∷ decimal (length words) ++ 13 ∷ 10 ∷ []) (flat_map sent_word words))
sent_some Frame.NoWords = omega arith
sent_some Frame.NullWords = omega arith

-- ---- a request that is given makes what is left shorter

shorter_by : (frames : List Frame) (words : Words) (rest : Bytes) → words ∷ [] ≡ filter_map words_of frames → length rest < length (flat_map sent frames ++ rest)
shorter_by [] words rest e = cc
shorter_by (f ∷ frames) words rest e = omega (arith, sent_some f, length-append (sent f ++ flat_map sent frames) rest, length-append (sent f) (flat_map sent frames))

pub shorter : (a b : Bytes) (words : Words) → Splits a (words ∷ []) b → length b < length a
shorter a b words s = subst (λ x. length b < length x) (sym s.whole) (shorter_by s.frames words b s.requests_are)

-- ---- every list is framed

one_frame : (f : Frame) (rest : Bytes) → IsFrame f → Splits (sent f ++ rest) (filter_map words_of (f ∷ [])) rest
one_frame f rest is = record { frames = f ∷ []; each = (is, tt); whole = ap (λ x. x ++ rest) (sym (append-nil (sent f))); requests_are = refl }

whole_frame : (f : Frame) (bytes rest : Bytes) → Spelled Frame IsSent f bytes rest → bytes ≡ sent f ++ rest
whole_frame f bytes rest s = s.whole ∙ ap (λ x. x ++ rest) s.is.1

framed_more : (f : Frame) (bytes behind rest : Bytes) (requests : List Words) → Spelled Frame IsSent f bytes behind → Framed behind requests rest → Framed bytes (filter_map words_of (f ∷ []) ++ requests) rest
framed_more f bytes behind rest requests e framed =
    let one : Splits bytes (filter_map words_of (f ∷ [])) behind = subst (λ x. Splits x (filter_map words_of (f ∷ [])) behind) (sym (whole_frame f bytes behind e)) (one_frame f behind e.is.0) in
    record { splits = splits_join bytes behind rest (filter_map words_of (f ∷ [])) requests one framed.splits; no_whole = framed.no_whole }

no_bytes : (bytes : Bytes) → length bytes ≤ 0 → bytes ≡ []
no_bytes [] none = refl
no_bytes (b ∷ bytes) none = absurd (omega arith)

-- a list of at most so many bytes
framed_within : (most : ℕ) (bytes : Bytes) → length bytes ≤ most → (requests : List Words) × ((rest : Bytes) × Framed bytes requests rest)
framed_within zero bytes within =
    let none : bytes ≡ [] = no_bytes bytes within in
    ([], (bytes, record { splits = no_split bytes; no_whole = more_not_whole bytes (ap frame none) }))
framed_within (suc most) bytes within =
    elim (frame bytes) as (λ found. frame bytes ≡ found → (requests : List Words) × ((rest : Bytes) × Framed bytes requests rest)) [
      | Scan.More ↦ λ is. ([], (bytes, record { splits = no_split bytes; no_whole = more_not_whole bytes is }))
      | Scan.Bad bad kind ↦ λ is. ([], (bytes, record { splits = no_split bytes; no_whole = bad_not_whole bytes bad kind is }))
      | Scan.Whole f behind ↦ λ is.
          let e : Spelled Frame IsSent f bytes behind = reads_frame.spelled bytes f behind is in
          let fewer : length behind ≤ most = omega (arith, sent_some f, length-append (sent f) behind, ap length (whole_frame f bytes behind e), within) in
          let more : (requests : List Words) × ((rest : Bytes) × Framed behind requests rest) = framed_within most behind fewer in
          (filter_map words_of (f ∷ []) ++ more.0, (more.1.0, framed_more f bytes behind more.1.0 more.0 e more.1.1))
    ] refl

pub every_list_is_framed : EveryListIsFramed
every_list_is_framed bytes = framed_within (length bytes) bytes (omega arith)

-- ---- frames are told apart

same_frame : (f g : Frame) (x y : Bytes) → Scan.Whole f x ≡ Scan.Whole g y → (f ≡ g) × (x ≡ y)
same_frame f g x y e = (cc, cc)

told_apart : (f g : Frame) (x y : Bytes) → IsFrame f → IsFrame g → sent f ++ x ≡ sent g ++ y → (f ≡ g) × (x ≡ y)
told_apart f g x y a b e = same_frame f g x y (sym (frame-sent f x a) ∙ ap frame e ∙ frame-sent g y b)

never_none : (f : Frame) (x : Bytes) → IsFrame f → sent f ++ x ≡ [] → ⊥
never_none f x is e = let found : frame (sent f ++ x) ≡ Scan.Whole f x = frame-sent f x is in let none : frame (sent f ++ x) ≡ Scan.More = ap frame e in cc

front_off : (f : Frame) (frames : List Frame) (x y : Bytes) → flat_map sent (f ∷ frames) ++ x ≡ y → sent f ++ (flat_map sent frames ++ x) ≡ y
front_off f frames x y e = sym (append_assoc (sent f) (flat_map sent frames) x) ∙ e

-- what stands behind frames goes on to frames where the whole does
goes_on_behind : (frames all : List Frame) (x : Bytes) → AllByRecursion IsFrame frames → AllByRecursion IsFrame all → flat_map sent frames ++ x ≡ flat_map sent all → (others : List Frame) × AllByRecursion IsFrame others × (x ≡ flat_map sent others)
goes_on_behind [] all x each each_of e = (all, each_of, e)
goes_on_behind (f ∷ frames) [] x each each_of e = absurd (never_none f (flat_map sent frames ++ x) each.0 (front_off f frames x [] e))
goes_on_behind (f ∷ frames) (g ∷ all) x each each_of e =
    let apart : (f ≡ g) × (flat_map sent frames ++ x ≡ flat_map sent all) = told_apart f g (flat_map sent frames ++ x) (flat_map sent all) each.0 each_of.0 (front_off f frames x (flat_map sent (g ∷ all)) e) in
    goes_on_behind frames all x each.1 each_of.1 apart.1

pub can_go_on_behind : (bytes rest : Bytes) (requests : List Words) → Splits bytes requests rest → CanGoOn bytes → CanGoOn rest
can_go_on_behind bytes rest requests s go =
    let whole : flat_map sent s.frames ++ (rest ++ go.more) ≡ flat_map sent go.frames = sym (append_assoc (flat_map sent s.frames) rest go.more) ∙ ap (λ x. x ++ go.more) (sym s.whole) ∙ go.whole in
    let behind : (others : List Frame) × AllByRecursion IsFrame others × (rest ++ go.more ≡ flat_map sent others) = goes_on_behind s.frames go.frames (rest ++ go.more) s.each go.each whole in
    record { more = go.more; frames = behind.0; each = behind.1; whole = behind.2 }

-- a bad rest makes the whole input bad
pub bad_behind : (bytes rest : Bytes) (requests : List Words) → Splits bytes requests rest → IsBad rest → IsBad bytes
bad_behind bytes rest requests s bad go = bad (can_go_on_behind bytes rest requests s go)

-- ---- what stands before a rest that can go on

pub can_go_on_before : (bytes rest : Bytes) (requests : List Words) → Splits bytes requests rest → CanGoOn rest → CanGoOn bytes
can_go_on_before bytes rest requests s go =
    let behind : Splits (rest ++ go.more) (filter_map words_of go.frames) [] = record { frames = go.frames; each = go.each; whole = go.whole ∙ sym (append-nil (flat_map sent go.frames)); requests_are = refl } in
    let all : Splits (bytes ++ go.more) (requests ++ filter_map words_of go.frames) [] = splits_join (bytes ++ go.more) (rest ++ go.more) [] requests (filter_map words_of go.frames) (splits_more bytes rest requests go.more s) behind in
    record { more = go.more; frames = all.frames; each = all.each; whole = all.whole ∙ append-nil (flat_map sent all.frames) }

-- an unfinished frame behind whole ones can go on
pub partial_behind : (bytes rest : Bytes) (requests : List Words) → Splits bytes requests rest → IsPartial rest → CanGoOn bytes
partial_behind bytes rest requests s p = can_go_on_before bytes rest requests s (partial_goes_on rest p)

-- ---- a framing is the only one

same_frames : (frames others : List Frame) (x y : Bytes) → AllByRecursion IsFrame frames → AllByRecursion IsFrame others → ¬ (BeginsWhole x) → ¬ (BeginsWhole y) → flat_map sent frames ++ x ≡ flat_map sent others ++ y → (frames ≡ others) × (x ≡ y)
same_frames [] [] x y a b c d e = (refl, e)
same_frames [] (g ∷ others) x y a b c d e = absurd (c (record { frame = g; is_frame = b.0; more = flat_map sent others ++ y; whole = e ∙ append_assoc (sent g) (flat_map sent others) y }))
same_frames (f ∷ frames) [] x y a b c d e = absurd (d (record { frame = f; is_frame = a.0; more = flat_map sent frames ++ x; whole = sym e ∙ append_assoc (sent f) (flat_map sent frames) x }))
same_frames (f ∷ frames) (g ∷ others) x y a b c d e =
    let apart : (f ≡ g) × (flat_map sent frames ++ x ≡ flat_map sent others ++ y) =
    told_apart f g (flat_map sent frames ++ x) (flat_map sent others ++ y) a.0 b.0 (front_off f frames x (flat_map sent (g ∷ others) ++ y) e ∙ append_assoc (sent g) (flat_map sent others) y) in
    let more : (frames ≡ others) × (x ≡ y) = same_frames frames others x y a.1 b.1 c d apart.1 in
    (ap (λ h. h ∷ frames) apart.0 ∙ ap (λ h. g ∷ h) more.0, more.1)

pub framed_is_unique : (bytes : Bytes) (requests requests' : List Words) (rest rest' : Bytes) → Framed bytes requests rest → Framed bytes requests' rest' → (requests ≡ requests') × (rest ≡ rest')
framed_is_unique bytes requests requests' rest rest' framed framed' =
    let same : (framed.splits.frames ≡ framed'.splits.frames) × (rest ≡ rest') =
    same_frames framed.splits.frames framed'.splits.frames rest rest' framed.splits.each framed'.splits.each framed.no_whole framed'.no_whole (sym framed.splits.whole ∙ framed'.splits.whole) in
    (framed.splits.requests_are ∙ ap (filter_map words_of) same.0 ∙ sym framed'.splits.requests_are, same.1)

-- ---- the first bad byte behind whole frames

-- what stands before the rest stands before each of its parts
part_behind : (bytes rest part : Bytes) (requests : List Words) (s : Splits bytes requests rest) → Splits (flat_map sent s.frames ++ part) requests part
part_behind bytes rest part requests s = record { frames = s.frames; each = s.each; whole = refl; requests_are = s.requests_are }

one_list : (frames others : List Frame) (x : Bytes) → flat_map sent frames ++ (flat_map sent others ++ x) ≡ flat_map sent (frames ++ others) ++ x
one_list frames others x = sym (append_assoc (flat_map sent frames) (flat_map sent others) x) ∙ ap (λ y. y ++ x) (sym (flat_map-append sent frames others))

expects_behind : (before : List Frame) (part : Bytes) (kind : BadKind) → Expects part kind → Expects (flat_map sent before ++ part) kind
expects_behind before _ _ (Expects.request frames) = subst (λ x. Expects x kinds.Start) (flat_map-append sent before frames) (Expects.request (before ++ frames))
expects_behind before _ _ (Expects.count frames line un) = subst (λ x. Expects x kinds.Count) (sym (one_list before frames (42 ∷ line))) (Expects.count (before ++ frames) line un)
expects_behind before _ _ (Expects.word frames n begun fewer) =
    subst (λ x. Expects x kinds.Start) (sym (one_list before frames (sent_count n ++ flat_map sent_word begun))) (Expects.word (before ++ frames) n begun fewer)
expects_behind before _ _ (Expects.length_line frames n begun line fewer un) =
    subst (λ x. Expects x kinds.Length) (sym (one_list before frames (sent_count n ++ flat_map sent_word begun ++ 36 ∷ line))) (Expects.length_line (before ++ frames) n begun line fewer un)
expects_behind before _ _ (Expects.word_cr frames n begun bytes fewer) =
    subst (λ x. Expects x kinds.End) (sym (one_list before frames (sent_count n ++ flat_map sent_word begun ++ (36 ∷ decimal (length bytes) ++ crlf ++ bytes)))) (Expects.word_cr (before ++ frames) n begun bytes fewer)
expects_behind before _ _ (Expects.word_lf frames n begun bytes fewer) =
    subst (λ x. Expects x kinds.End) (sym (one_list before frames (sent_count n ++ flat_map sent_word begun ++ (36 ∷ decimal (length bytes) ++ crlf ++ bytes ++ 13 ∷ [])))) (Expects.word_lf (before ++ frames) n begun bytes fewer)

take_behind : (before rest : Bytes) (k : ℕ) → take (length before + k) (before ++ rest) ≡ before ++ take k rest
take_behind [] rest k = let e : 0 + k ≡ k = omega arith in ap (λ n. take n rest) e
take_behind (x ∷ before) rest k =
    let e : length (x ∷ before) + k ≡ suc (length before + k) = omega arith in
    ap (λ n. take n (x ∷ before ++ rest)) e ∙ ap (λ y. x ∷ y) (take_behind before rest k)

part_of : (bytes before rest : Bytes) (at : ℕ) → bytes ≡ before ++ rest → take (length bytes - length rest + at) bytes ≡ before ++ take at rest
part_of bytes before rest at whole =
    let place : length bytes - length rest + at ≡ length before + at = omega (arith, ap length whole, length-append before rest) in
    ap (λ k. take k bytes) place ∙ ap (take (length before + at)) whole ∙ take_behind before rest at

pub bad_at_behind : (bytes rest : Bytes) (requests : List Words) (at : ℕ) (kind : BadKind) → Splits bytes requests rest → BadAt rest at kind → BadAt bytes (length bytes - length rest + at) kind
bad_at_behind bytes rest requests at kind s bad =
    let before : Bytes = flat_map sent s.frames in
    let good : take (length bytes - length rest + at) bytes ≡ flat_map sent s.frames ++ take at rest = part_of bytes (flat_map sent s.frames) rest at s.whole in
    let next : length bytes - length rest + at + 1 ≡ length bytes - length rest + (at + 1) = omega arith in
    let with_it : take (length bytes - length rest + at + 1) bytes ≡ flat_map sent s.frames ++ take (at + 1) rest = ap (λ k. take k bytes) next ∙ part_of bytes (flat_map sent s.frames) rest (at + 1) s.whole in
    record {
      within = omega (arith, bad.within, ap length s.whole, length-append (flat_map sent s.frames) rest);
      good_before = subst CanGoOn (sym good) (can_go_on_before (flat_map sent s.frames ++ take at rest) (take at rest) requests (part_behind bytes rest (take at rest) requests s) bad.good_before);
      bad_with = subst IsBad (sym with_it) (bad_behind (flat_map sent s.frames ++ take (at + 1) rest) (take (at + 1) rest) requests (part_behind bytes rest (take (at + 1) rest) requests s) bad.bad_with);
      expects = subst (λ x. Expects x kind) (sym good) (expects_behind s.frames (take at rest) kind bad.expects);
    }
