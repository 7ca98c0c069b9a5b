-- What reading one frame says of the bytes that are left of a stream.
use Rattle.std.proofs.Common.{◌≡◌, ℕ, ◌+◌, List, [], ◌∷◌, ◌++◌, length, take, refl, sym, ap, subst, ◌∙◌, arith, append_assoc, append-nil, length-append}
use Rattle.std.specs.List.{flat_map, AllByRecursion}
use Rattle.std.proofs.lemmas.Grind.{common_steps}
use Rattle.df_model.specs.Values.{Bytes}
use Rattle.df_model.specs.Framing.{Frame, sent, IsFrame, IsPartial, BeginsWhole, CanGoOn, IsBad}
use Rattle.df_model.specs.BadInput.{Expects, BadAt}
use Rattle.df_model.specs.declared.session.BadKind.{BadKind}
use Rattle.df_resp.specs.Scan.{Scan}
use Rattle.df_resp.specs.Frames.{frame}
use Rattle.df_resp.proofs.Languages.{GoesOn, FirstBad}
use Rattle.df_resp.proofs.FrameLaws.{IsSent, reads_frame}

pub frame-sent : (f : Frame) (rest : Bytes) → IsFrame f → frame (sent f ++ rest) ≡ Scan.Whole f rest
frame-sent f rest is = reads_frame.sent f (sent f) rest (is, refl)

-- ---- an unfinished frame

pub more_is_partial : (bytes : Bytes) → frame bytes ≡ Scan.More → IsPartial bytes
more_is_partial bytes e =
    let g : GoesOn Frame IsSent bytes = reads_frame.more bytes e in
    record { frame = g.a; is_frame = g.is.0; more = g.more; goes_on = g.goes_on; whole = g.whole ∙ g.is.1 }

pub partial_goes_on : (bytes : Bytes) → IsPartial bytes → CanGoOn bytes
partial_goes_on bytes p = record { more = p.more; frames = p.frame ∷ []; each = (p.is_frame, tt); whole = p.whole ∙ sym (append-nil (sent p.frame)) }

-- ---- no whole frame begins where none is read

begins_frame : (bytes : Bytes) → (w : BeginsWhole bytes) → frame bytes ≡ Scan.Whole w.frame w.more
begins_frame bytes w = ap frame w.whole ∙ frame-sent w.frame w.more w.is_frame

pub more_not_whole : (bytes : Bytes) → frame bytes ≡ Scan.More → ¬ (BeginsWhole bytes)
more_not_whole bytes e w = let whole : frame bytes ≡ Scan.Whole w.frame w.more = begins_frame bytes w in cc

pub bad_not_whole : (bytes bad : Bytes) (kind : BadKind) → frame bytes ≡ Scan.Bad bad kind → ¬ (BeginsWhole bytes)
bad_not_whole bytes bad kind e w = let whole : frame bytes ≡ Scan.Whole w.frame w.more = begins_frame bytes w in cc

-- ---- bad input

never_frames : (bytes bad : Bytes) (kind : BadKind) (frames : List Frame) → frame bytes ≡ Scan.Bad bad kind → AllByRecursion IsFrame frames → bytes ≡ flat_map sent frames → ⊥
never_frames bytes bad kind [] e each whole = let more : frame bytes ≡ Scan.More = ap frame whole in cc
never_frames bytes bad kind (f ∷ frames) e each whole = let found : frame bytes ≡ Scan.Whole f (flat_map sent frames) = ap frame whole ∙ frame-sent f (flat_map sent frames) each.0 in cc

-- what is bad begins no list of frames
pub bad_is_bad : (bytes bad : Bytes) (kind : BadKind) → frame bytes ≡ Scan.Bad bad kind → IsBad bytes
bad_is_bad bytes bad kind e go =
    let f : FirstBad Frame frame Expects bytes bad kind = reads_frame.bad bytes bad kind e in
    let split : bytes ++ go.more ≡ f.front ++ f.byte ∷ (f.behind ++ go.more) = ap (λ x. x ++ go.more) f.whole ∙ append_assoc f.front (f.byte ∷ f.behind) go.more in
    never_frames (bytes ++ go.more) (f.byte ∷ (f.behind ++ go.more)) kind go.frames (ap frame split ∙ f.from_here (f.behind ++ go.more)) go.each go.whole

take_front : (front behind : Bytes) → take (length front) (front ++ behind) ≡ front
take_front front behind = grind (arith, common_steps)

front_of : (bytes front behind : Bytes) (at : ℕ) → bytes ≡ front ++ behind → at ≡ length front → take at bytes ≡ front
front_of bytes front behind at whole is = ap (λ k. take k bytes) is ∙ ap (take (length front)) whole ∙ take_front front behind

-- the place of the first bad byte
pub bad_place : (bytes bad : Bytes) (kind : BadKind) (at : ℕ) → frame bytes ≡ Scan.Bad bad kind → at + length bad ≡ length bytes → BadAt bytes at kind
bad_place bytes bad kind at e sum =
    let f : FirstBad Frame frame Expects bytes bad kind = reads_frame.bad bytes bad kind e in
    let place : at ≡ length f.front = omega (arith, sum, ap length f.whole, ap length f.bad_is, length-append f.front (f.byte ∷ f.behind)) in
    let before : take at bytes ≡ f.front = front_of bytes f.front (f.byte ∷ f.behind) at f.whole place in
    let with_it : take (at + 1) bytes ≡ f.front ++ f.byte ∷ [] =
    front_of bytes (f.front ++ f.byte ∷ []) f.behind (at + 1) (f.whole ∙ sym (append_assoc f.front (f.byte ∷ []) f.behind)) (omega (arith, place, length-append f.front (f.byte ∷ []))) in
    record {
      within = omega (arith, sum, ap length f.bad_is);
      good_before = subst CanGoOn (sym before) (partial_goes_on f.front (more_is_partial f.front f.before));
      bad_with = subst IsBad (sym with_it) (bad_is_bad (f.front ++ f.byte ∷ []) (f.byte ∷ []) kind (f.from_here []));
      expects = subst (λ x. Expects x kind) (sym before) f.expects;
    }
