use Rattle.std.proofs.Common.{◌≡◌, [], ◌++◌, codes, decimal, append-nil, sym, ◌∙◌}
use Rattle.df_model.specs.Outcomes.{bulks}
use Rattle.df_model.specs.Replies.{crlf, encoding_of}
use Rattle.df_model.proofs.EncodingLaws.{bulks_is}
use Rattle.df_lists.proofs.dispatch.no_elements.Goals as goal

pub returns : goal.returns
returns c =
    let none : encoding_of (bulks []) ≡ codes "*" ++ decimal 0 ++ crlf = bulks_is [] ∙ append-nil (codes "*" ++ decimal 0 ++ crlf) in
    c.in_ok-put_array_head.ensures ∙ sym none
