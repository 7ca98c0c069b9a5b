use Rattle.std.proofs.Common.{◌≡◌, ◌∙◌, [], ◌∷◌, ◌++◌, refl, sym, ap, arith, length-append, true, false}
use Rattle.std.specs.Prelude.{not}
use Rattle.df_model.specs.Members as members
use Rattle.df_rdbcore.specs.Texts.{IsText}
use Rattle.df_rdbcore.specs.Parts.{InTurn, NoneTwice, members_of}
use Rattle.df_rdbcore.specs.declared.fault.LoadFault.TheVariants as faults
use Rattle.df_rdbcore.specs.declared.fault.Twice.TheVariants as twice
use Rattle.df_rdbload.specs.Stops.{MemberStops, Midway}
use Rattle.df_rdbload.specs.Entries.{AreMembers}
use Rattle.df_rdbload.proofs.Steps.{err_is, goes_on, reads_none, reads_as, reads_join, reads_stops, reads_refuse, reads_no_memory}
use Rattle.df_rdbload.proofs.SourceLaws.{Never}
use Rattle.df_rdbload.proofs.KeyLaws.{in_turn_push, once_push, member_again, member_new, member_pushed}
use Rattle.df_rdbload.proofs.values.members.Goals as goal

pub members-init : goal.members-init
members-init g c = record {
  texts = [];
  read = reads_none (InTurn IsText) Never [] refl;
  count = refl;
  once = tt;
  members = c.new-set.ensures;
}

pub members-preserved : goal.members-preserved
members-preserved g c =
    let texts = c.members.invariant.texts in
    let text = c.in_ok-member.member in
    let here : c.reserve.new.self.members ≡ members_of texts = c.reserve.ensures.members ∙ c.members.invariant.members in
    let new : not (members.contains (members_of texts) text) ≡ true = ap (λ m. not (members.contains m text)) (sym here) ∙ sym c.add.ensures.new ∙ c.if-not-add.false in
    let long = length-append texts (text ∷ []) in
    let before = c.members.invariant.count in
    record {
      texts = texts ++ text ∷ [];
      read = reads_join (InTurn IsText) Never (texts ++ text ∷ []) c.members.invariant.read c.in_ok-member.ensures (λ form more p q. in_turn_push IsText form more texts text p q);
      count = omega (arith, long, before);
      once = once_push texts text c.members.invariant.once (member_new texts text new);
      members = c.add.ensures.members ∙ ap (λ m. members.insert m text) here ∙ member_pushed texts text new;
    }

pub returns-in_err-member : goal.returns-in_err-member
returns-in_err-member g c =
    let before = c.members.invariant.count in
    reads_stops (AreMembers c.args.count) (Midway IsText NoneTwice (MemberStops c.args.begin) c.args.count) _ (err_is _ c.in_err-member.field-0.0 c.from_residual.ensures.1) c.members.invariant.read c.in_err-member.ensures
    (λ size at rest form behind f place is whole h. record { read = c.members.invariant.texts; front = form; behind = behind; read_are = is; fine = c.members.invariant.once; few = omega (arith, before); whole = whole; stops = MemberStops.Text h })

pub returns-then-is_err : goal.returns-then-is_err
returns-then-is_err g c = reads_no_memory (AreMembers c.args.count) (Midway IsText NoneTwice (MemberStops c.args.begin) c.args.count) (goes_on c.members.invariant.read.goes c.in_ok-member.ensures.goes)

pub returns-then-not-add : goal.returns-then-not-add
returns-then-not-add g c =
    let texts = c.members.invariant.texts in
    let text = c.in_ok-member.member in
    let here : c.reserve.new.self.members ≡ members_of texts = c.reserve.ensures.members ∙ c.members.invariant.members in
    let again : not (members.contains (members_of texts) text) ≡ false = ap (λ m. not (members.contains m text)) (sym here) ∙ sym c.add.ensures.new ∙ c.if-not-add.true in
    let before = c.members.invariant.count in
    let fault = faults.Duplicate twice.Member c.args.begin in
    reads_stops (AreMembers c.args.count) (Midway IsText NoneTwice (MemberStops c.args.begin) c.args.count) _ refl c.members.invariant.read
    (reads_refuse IsText (MemberStops c.args.begin texts) fault tt c.in_ok-member.ensures
    (λ size at rest form behind place is whole. MemberStops.Again (record { form = form; behind = behind; text = text; form_is = is; whole = whole; known = member_again texts text again }) refl))
    (λ size at rest form behind f place is whole h. record { read = texts; front = form; behind = behind; read_are = is; fine = c.members.invariant.once; few = omega (arith, before); whole = whole; stops = h })

pub returns : goal.returns
returns g c =
    let before = c.members.invariant.count in
    reads_as (AreMembers c.args.count) (Midway IsText NoneTwice (MemberStops c.args.begin) c.args.count) c.members.set c.members.invariant.read
    (λ form is. (c.members.invariant.texts, is, omega (arith, before), c.members.invariant.once, c.members.invariant.members))
