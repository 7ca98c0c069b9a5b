use Rattle.std.proofs.Common.{ap, ◌∙◌}
use Rattle.df_model.specs.Replies.{encoding_of}
use Rattle.df_sets.proofs.MemberLaws.{removes_from_none}
use Rattle.df_sets.proofs.remove.remove_from_none.Goals as goal

pub returns : goal.returns
returns c =
    let none = removes_from_none c.args._words.now.items in
    record { reply = c.in_ok-put_count.ensures ∙ ap encoding_of none.0; change = none.1; fits = tt; alters = tt }
