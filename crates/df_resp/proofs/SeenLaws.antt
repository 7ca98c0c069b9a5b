-- What was seen at the front of bytes.
use Rattle.std.proofs.Common.{◌≡◌, ℕ, ◌+◌, ◌-◌, ◌<◌, ◌≤◌, false, length, take, drop, refl, sym, ap, ◌∙◌, arith, length-drop}
use Rattle.std.specs.Prelude.{nat_lt, Some}
use Rattle.std.proofs.lemmas.Grind.{common_steps}
use Rattle.df_model.specs.Values.{Bytes}
use Rattle.df_model.specs.Replies.{crlf}
use Rattle.df_model.specs.Framing.{MAX_WORDS}
use Rattle.df_model.specs.declared.session.BadKind.TheVariants as kinds
use Rattle.df_resp.specs.Scan.{Scan, and_then, fixed, some_bytes}
use Rattle.df_resp.specs.Lines.{line}
use Rattle.df_resp.specs.Frames.{begins_null, word_bytes}
use Rattle.df_resp.specs.Seen.{SeesNumber, SeesFixed, SeesHead, SeesWord}
use Rattle.df_resp.proofs.HeadLaws.{head_line}
use Rattle.df_resp.specs.declared.front.Seen.{Seen}
use Rattle.df_resp.specs.declared.front.Seen.TheVariants.{More, Bad, Whole}

pub sees_line : (seen : Seen) (bytes : Bytes) → begins_null bytes ≡ false → SeesNumber seen bytes (line 42 kinds.Count MAX_WORDS bytes) → SeesHead seen bytes
sees_line More bytes e s = head_line bytes e ∙ ap (λ x. and_then x (λ n rest. Scan.Whole (Some n) rest)) s
sees_line (Bad kind at) bytes e s = (s.0, head_line bytes e ∙ ap (λ x. and_then x (λ n rest. Scan.Whole (Some n) rest)) s.1)
sees_line (Whole n used) bytes e s = (s.0, s.1, (Some n, refl, head_line bytes e ∙ ap (λ x. and_then x (λ n rest. Scan.Whole (Some n) rest)) s.2))

some_seen : (from n : ℕ) (bytes : Bytes) → from + n ≤ length bytes → some_bytes n (drop from bytes) ≡ Scan.Whole (take n (drop from bytes)) (drop (from + n) bytes)
some_seen from n bytes within =
    let enough : nat_lt (length (drop from bytes)) n ≡ false = grind (arith, length-drop {A = ℕ}) in
    let behind : drop n (drop from bytes) ≡ drop (from + n) bytes = grind (arith, common_steps) in
    rw (enough, behind) refl

end_seen : (from n : ℕ) (bytes : Bytes) (s : Scan (Unit {0})) → from + n ≤ length bytes → fixed kinds.End crlf (drop (from + n) bytes) ≡ s → word_bytes n (drop from bytes) ≡ and_then s (λ _ rest. Scan.Whole (take n (drop from bytes)) rest)
end_seen from n bytes s within e =
    ap (λ x. and_then x (λ word behind. and_then (fixed kinds.End crlf behind) (λ _ rest. Scan.Whole word rest))) (some_seen from n bytes within)
    ∙ ap (λ x. and_then x (λ _ rest. Scan.Whole (take n (drop from bytes)) rest)) e

pub sees_word_bytes : (seen : Seen) (from n : ℕ) (bytes : Bytes) → 0 < from → from + n ≤ length bytes → SeesFixed seen kinds.End crlf (from + n) n bytes → SeesWord seen bytes (word_bytes n (drop from bytes))
sees_word_bytes More from n bytes some within s = end_seen from n bytes Scan.More within s
sees_word_bytes (Bad kind at) from n bytes some within s = (s.0, end_seen from n bytes (Scan.Bad (drop at bytes) kind) within s.1)
sees_word_bytes (Whole m used) from n bytes some within s =
    let end : used ≡ from + n + 2 = s.1 in
    let start : used - m - 2 ≡ from = omega (arith, s.0, end) in
    let whole : word_bytes n (drop from bytes) ≡ Scan.Whole (take n (drop from bytes)) (drop used bytes) = end_seen from n bytes (Scan.Whole tt (drop used bytes)) within s.3 in
    (omega (arith, s.0, end, some), s.2, whole ∙ ap (λ k. Scan.Whole (take k (drop from bytes)) (drop used bytes)) (sym s.0) ∙ ap (λ k. Scan.Whole (take m (drop k bytes)) (drop used bytes)) (sym start))
