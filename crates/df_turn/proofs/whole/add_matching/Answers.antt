use Rattle.std.proofs.Common.{◌≡◌, ◌+◌, ◌≤◌, ◌++◌, drop, length, map, sym, ap, subst, ◌∙◌, append-nil, arith}
use Rattle.std.specs.FinMap.{entries, len-entries}
use Rattle.std.specs.List.{filter, flat_map}
use Rattle.std.proofs.lemmas.List.{length-map, drop_all}
use Rattle.df_model.specs.Members as members
use Rattle.df_model.specs.Patterns.{is_match}
use Rattle.df_model.specs.Replies.{encoding_of}
use Rattle.df_model.specs.declared.reply.Reply.TheVariants.{Bulk}
use Rattle.df_turn.proofs.MatchLaws.{writes-match, writes-other}
use Rattle.df_turn.proofs.whole.add_matching.Goals as goal
use Rattle.df_turn.proofs.whole.add_matching.Goals.{then-glob+in_ok-add_bulk, else-glob}

pub names-preserved : goal.names-preserved
names-preserved c =
    let p = is_match c.args.pattern.now in
    let items = members.items c.args.names.now.members in
    let all = c.args.reply.now ++ flat_map encoding_of (map Bulk (filter p items)) in
    let tested = ap p (sym c.as_slice.ensures) ∙ sym c.glob.ensures in
    elim c.if-glob.branch [
      | then-glob+in_ok-add_bulk w ↦
          writes-match p items c.names.i c.name_at-name.result.now c.name_at-name.ensures c.names.reply c.if-glob.reply all (tested ∙ w.if-glob.true)
          (w.reply-is ∙ w.in_ok-add_bulk.ensures ∙ ap (λ b. c.names.reply ++ encoding_of (Bulk b)) w.as_slice-then-glob.ensures)
          c.names.invariant
      | else-glob w ↦
          subst (λ r. r ++ flat_map encoding_of (map Bulk (filter p (drop (c.names.i + 1) items))) ≡ all) (sym w.reply-is)
          (writes-other p items c.names.i c.name_at-name.result.now c.name_at-name.ensures c.names.reply all (tested ∙ w.if-glob.false) c.names.invariant)
    ]

pub returns : goal.returns
returns c =
    let names = c.args.names.now.members in
    let p = is_match c.args.pattern.now in
    let count = len-entries names ∙ sym (length-map (entries names) (λ e. e.0)) in
    let past : length (members.items names) ≤ c.names.i = omega (arith, count, c.len-i-end.ensures, c.names-test.false) in
    sym (append-nil c.names.reply)
    ∙ ap (λ l. c.names.reply ++ flat_map encoding_of (map Bulk (filter p l))) (sym (drop_all c.names.i (members.items names) past))
    ∙ c.names.invariant
