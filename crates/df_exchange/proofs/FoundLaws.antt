-- What an answer's receipt shows, found in its log.
use Rattle.std.proofs.Common.{◌≡◌, ℕ, Bool, true, false, cond, is_some, not, ◌&&◌, List, [], ◌∷◌, ◌++◌, inl, inr, refl, sym, ap, ◌∙◌}
use Rattle.std.specs.Prelude.{Option, Some, None, ◌==◌}
use Rattle.std.proofs.lemmas.Bool.{false≢true, and_parts, eqb-true}
use Rattle.df_order.specs.Lists.{Has}
use Rattle.df_log.specs.Entries.{is_note}
use Rattle.df_log.specs.declared.entry.Entry.{Entry}
use Rattle.df_book.specs.Weights.{Each}
use Rattle.df_hops.specs.Outcomes.{Said}
use Rattle.df_hops.specs.Shown.{entry_at}
use Rattle.df_hops.specs.Came.{said_in, said_of}
use Rattle.df_hops.specs.declared.answer.Answer.{Answer}
use Rattle.df_post.specs.Fits.{fits, is_of}
use Rattle.df_post.specs.declared.awaited.Awaited.{Awaited}

-- no note
is-no-note : (b : Bool) → not b ≡ true → b ≡ false
is-no-note true e = absurd (false≢true e)
is-no-note false e = refl

-- an entry that was found stands in the log, with the number and the hop, and is no note
pub entry-there : (n hop : ℕ) (log : List Entry) (e : Entry) → entry_at n hop log ≡ Some e →
    Has log e × (e.number ≡ n) × (e.hop ≡ hop) × (is_note e.act ≡ false)
entry-there n hop [] e is = absurd (false≢true (ap is_some is))
entry-there n hop (f ∷ log) e is = go (entry-there n hop log e) ((f.number == n) && ((f.hop == hop) && not (is_note f.act))) refl is
  where
    go : (entry_at n hop log ≡ Some e → Has log e × (e.number ≡ n) × (e.hop ≡ hop) × (is_note e.act ≡ false)) → (b : Bool) → ((f.number == n) && ((f.hop == hop) && not (is_note f.act))) ≡ b → cond b (Some f) (entry_at n hop log) ≡ Some e →
        Has (f ∷ log) e × (e.number ≡ n) × (e.hop ≡ hop) × (is_note e.act ≡ false)
    go behind true test is =
        let same : f ≡ e = cc in
        let both = and_parts (f.number == n) ((f.hop == hop) && not (is_note f.act)) test in
        let more = and_parts (f.hop == hop) (not (is_note f.act)) both.1 in (
          inl same,
          ap (λ (x : Entry). x.number) (sym same) ∙ eqb-true f.number n both.0,
          ap (λ (x : Entry). x.hop) (sym same) ∙ eqb-true f.hop hop more.0,
          ap (λ (x : Entry). is_note x.act) (sym same) ∙ is-no-note (is_note f.act) more.1,
        )
    go behind false test is = let h = behind is in (inr h.0, h.1, h.2, h.3)

-- an entry of which something is said is there
pub entry-said : (o : Option Entry) (said : Said) → Some said ≡ said_in o → (e : Entry) × (o ≡ Some e) × (said_of e.told ≡ said)
entry-said None said is = absurd (false≢true (sym (ap is_some is)))
entry-said (Some e) said is = (e, refl, cc)

pub each-back : {A : Type 0} (P : A → Type 0) (l m : List A) → Each P (l ++ m) → Each P m
each-back P [] m e = e
each-back P (x ∷ l) m e = each-back P l m e.1

-- an answer that fits has the shard, the number and the hop, and a body of the kind
pub fits-parts : (a : Awaited) (s : ℕ) (answer : Answer) → fits a s answer ≡ true →
    (answer.shard ≡ s) × (answer.number ≡ a.number) × (answer.hop ≡ a.hop) × (is_of a.kind answer.body ≡ true)
fits-parts a s answer fit =
    let x = and_parts (answer.shard == s) ((answer.number == a.number) && ((answer.hop == a.hop) && is_of a.kind answer.body)) fit in
    let y = and_parts (answer.number == a.number) ((answer.hop == a.hop) && is_of a.kind answer.body) x.1 in
    let z = and_parts (answer.hop == a.hop) (is_of a.kind answer.body) y.1 in
    (eqb-true answer.shard s x.0, eqb-true answer.number a.number y.0, eqb-true answer.hop a.hop z.0, z.1)
