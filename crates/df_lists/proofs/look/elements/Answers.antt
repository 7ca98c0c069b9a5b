use Rattle.std.proofs.Common.{◌++◌, codes, decimal, sym, ap, ◌∙◌, arith}
use Rattle.std.specs.Option.{option_copied}
use Rattle.df_model.specs.Replies.{crlf}
use Rattle.df_lists.specs.Ends.{from_end}
use Rattle.df_lists.proofs.RangeLaws.{bulk_bytes, range_starts, range_goes, length-from_end, get_within}
use Rattle.df_lists.proofs.look.elements.Goals as goal

pub elements-init : goal.elements-init
elements-init c =
    let xs = from_end c.args.side c.args.list.now.items in
    range_starts c.put_array_head.new.self c.args.start c.args.stop xs (omega (arith, length-from_end c.args.side c.args.list.now.items, c.requires))
    (c.in_ok-put_array_head.ensures ∙ ap (λ n. codes "*" ++ decimal n ++ crlf) c.saturating_sub.ensures)

pub unreachable-requires : goal.unreachable-requires
unreachable-requires c =
    get_within c.elements.at (from_end c.args.side c.args.list.now.items) (omega (arith, c.elements-test.true, c.requires, length-from_end c.args.side c.args.list.now.items))
    (sym c.element_from.ensures ∙ ap option_copied c.in_default.is)

pub elements-preserved : goal.elements-preserved
elements-preserved c =
    let xs = from_end c.args.side c.args.list.now.items in
    range_goes c.elements.reply c.add_bulk.new.self _ c.elements.at c.args.stop xs c.in-Some.element.now c.elements-test.true
    (sym c.element_from.ensures ∙ ap option_copied c.in-Some.is)
    (c.in_ok-add_bulk.ensures ∙ ap (λ bytes. c.elements.reply ++ bulk_bytes bytes) c.as_slice.ensures) c.elements.invariant
