use Rattle.std.proofs.Common.{◌≡◌, length, ap, sym, ◌∙◌, arith}
use Rattle.df_segment.specs.Entries.{slots, flag_at}
use Rattle.df_segment.proofs.SlotLaws.{slots_push}
use Rattle.df_segment.proofs.bucket.Half.put.Goals as goal

pub returns-clause-items : goal.returns-clause-items
returns-clause-items g c =
    let es = c.args.self.now.entries.items in
    let f = flag_at c.args.self.now.staged in
    let h = flag_at c.set_flag-self.result in
    let last : c.len-i.result ≡ length es = omega arith in
    ap (slots h) c.push_reserved.ensures.items
    ∙ slots_push f h es c.args.entry c.args.staged (ap h (sym last) ∙ c.set_flag-self.ensures.own)
    (λ k w. sym (c.set_flag-self.ensures.others k (omega arith) (λ q. absurd (omega arith))))
