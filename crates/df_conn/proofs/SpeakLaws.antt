-- A session that ends.
use Rattle.std.proofs.Common.{◌≡◌, ◌⊎◌, inl, inr, ℕ, List, [], ◌∷◌, ◌++◌, refl, sym, ap, subst, ◌∙◌, append-nil}
use Rattle.std.specs.List.{flat_map}
use Rattle.std.proofs.lemmas.List.Concat.{flat_map-append}
use Rattle.df_model.specs.Values.{Bytes}
use Rattle.df_model.specs.Words.{Words}
use Rattle.df_model.specs.Replies.{encoding_of, protocol_error}
use Rattle.df_model.specs.Framing.{Splits, Framed, BeginsWhole, sent}
use Rattle.df_model.specs.declared.reply.ErrorText.TheVariants as errors
use Rattle.df_model.specs.declared.reply.Reply.TheVariants.{Error}
use Rattle.df_model.specs.BadInput.{BadAt}
use Rattle.df_model.specs.Session.{State, Given, session_step}
use Rattle.df_model.specs.Output.{Walk, SessionOutput, IsAtLast, MayStop, farewell}
use Rattle.df_model.specs.Spoken.{CutsOff, WritesAll, Shows, Spoke}
use Rattle.df_model.specs.declared.session.BadKind.{BadKind}
use Rattle.df_model.specs.declared.session.Why.{Why}
use Rattle.df_model.specs.declared.session.Why.TheVariants as ends
use Rattle.df_model.specs.declared.reply.Reply.{Reply}
use Rattle.df_model.proofs.FramingLaws.{no_split, splits_join}
use Rattle.df_resp.proofs.FramedLaws.{every_list_is_framed}
use Rattle.df_caller.specs.Told.{Told, told_items}
use Rattle.df_conn.specs.Walked.{Walked, Speaks, Shown, Closes}
use Rattle.df_conn.specs.Turns.{session_of, TurnsAway, turned_away_line}

no_farewell : (end : Why) → MayStop end → farewell end ≡ []
no_farewell ends.InputEnd may = absurd may
no_farewell ends.Quit may = absurd may
no_farewell ends.Asked may = absurd may
no_farewell ends.Stopped may = refl
no_farewell (ends.Protocol kind at) may = absurd may
no_farewell ends.ReadFault may = refl
no_farewell ends.WriteFault may = refl
no_farewell ends.TooMany may = absurd may
no_farewell ends.Spent may = refl
no_farewell ends.NoMemory may = refl

pub cuts_may : (end : Why) → CutsOff end → MayStop end
cuts_may ends.InputEnd cuts = absurd cuts
cuts_may ends.Quit cuts = absurd cuts
cuts_may ends.Asked cuts = absurd cuts
cuts_may ends.Stopped cuts = tt
cuts_may (ends.Protocol kind at) cuts = absurd cuts
cuts_may ends.ReadFault cuts = absurd cuts
cuts_may ends.WriteFault cuts = tt
cuts_may ends.TooMany cuts = absurd cuts
cuts_may ends.Spent cuts = absurd cuts
cuts_may ends.NoMemory cuts = tt

-- an end that may stop anywhere may leave output
pub may_leave : {P : Type 0} (end : Why) → MayStop end → WritesAll end → P
may_leave ends.InputEnd may all = absurd may
may_leave ends.Quit may all = absurd may
may_leave ends.Asked may all = absurd may
may_leave ends.Stopped may all = absurd all
may_leave (ends.Protocol kind at) may all = absurd may
may_leave ends.ReadFault may all = absurd all
may_leave ends.WriteFault may all = absurd all
may_leave ends.TooMany may all = absurd may
may_leave ends.Spent may all = absurd all
may_leave ends.NoMemory may all = absurd all

-- the last requests take no item and give these replies
ends_with : (told : List Told) (bytes said : Bytes) (state : State) (rest : Bytes) (end : Why) (more : List Words) (last : List Reply) (s : Walked told bytes said state rest) → Walk end state more [] last
    → SessionOutput (s.requests ++ more) end (told_items told) ((said ++ flat_map encoding_of last) ++ farewell end)
ends_with told bytes said state rest end more last s walk = record {
  replies = s.replies ++ last;
  walk = subst (λ i. Walk end State.Ready (s.requests ++ more) i (s.replies ++ last)) (append-nil (told_items told)) (s.walks end more [] last walk);
  out_is = ap (λ x. x ++ farewell end) (ap (λ x. x ++ flat_map encoding_of last) s.said_is ∙ sym (flat_map-append encoding_of s.replies last));
}

-- behind the last request
pub speaks_done : (told : List Told) (bytes said : Bytes) (state : State) (rest : Bytes) (end : Why) → Walked told bytes said state rest → ¬ (BeginsWhole rest) → IsAtLast end → Speaks end bytes (said ++ farewell end) told
speaks_done told bytes said state rest end s no_whole last = record {
  requests = s.requests;
  rest = rest;
  framed = record { splits = s.splits; no_whole = no_whole };
  output = subst (λ x. SessionOutput s.requests end (told_items told) (x ++ farewell end)) (append-nil said)
      (subst (λ r. SessionOutput r end (told_items told) ((said ++ []) ++ farewell end)) (append-nil s.requests) (ends_with told bytes said state rest end [] [] s (Walk.done state last)));
}

-- before these requests, whatever stands behind them
before_some : (told : List Told) (bytes said : Bytes) (state : State) (rest new : Bytes) (end : Why) (words : List Words) (last : List Reply) → Walked told bytes said state rest → Splits rest words new → farewell end ≡ []
    → ((more : List Words) → Walk end state (words ++ more) [] last) → Speaks end bytes (said ++ flat_map encoding_of last) told
before_some told bytes said state rest new end words last s t none walk =
    let left : (requests : List Words) × ((last : Bytes) × Framed new requests last) = every_list_is_framed new in
    let more : List Words = left.0 in
    let framed : Framed new more left.1.0 = left.1.1 in
    record {
      requests = s.requests ++ (words ++ more);
      rest = left.1.0;
      framed = record { splits = splits_join bytes rest left.1.0 s.requests (words ++ more) s.splits (splits_join rest new left.1.0 words more t framed.splits); no_whole = framed.no_whole };
      output = subst (SessionOutput (s.requests ++ (words ++ more)) end (told_items told)) (ap (λ x. (said ++ flat_map encoding_of last) ++ x) none ∙ append-nil (said ++ flat_map encoding_of last))
          (ends_with told bytes said state rest end (words ++ more) last s (walk more));
    }

-- anywhere: the requests of the rest are left
pub speaks_stopped : (told : List Told) (bytes said : Bytes) (state : State) (rest : Bytes) (end : Why) → Walked told bytes said state rest → MayStop end → Speaks end bytes said told
speaks_stopped told bytes said state rest end s may =
    subst (λ x. Speaks end bytes x told) (append-nil said)
    (before_some told bytes said state rest rest end [] [] s (no_split rest) (no_farewell end may) (λ more. Walk.stopped state more may))

no_last_line : (asked end : Why) → farewell asked ≡ [] → (end ≡ asked) ⊎ MayStop end → farewell end ≡ []
no_last_line why end none (inl e) = ap farewell e ∙ none
no_last_line why end none (inr may) = no_farewell end may

or_may : (why end : Why) → (end ≡ why) ⊎ CutsOff end → (end ≡ why) ⊎ MayStop end
or_may why end (inl e) = inl e
or_may why end (inr cuts) = inr (cuts_may end cuts)

-- at QUIT, which has its reply
pub closes_quit : (told : List Told) (bytes said : Bytes) (state after : State) (rest new : Bytes) (words : Words) (reply : Reply) → Walked told bytes said state rest → Splits rest (words ∷ []) new
    → session_step state words ≡ (Given.Parts reply, after) → Closes ends.Quit bytes (said ++ encoding_of reply) told
closes_quit told bytes said state after rest new words reply s t step = λ end how. (
  end,
  inl refl,
  subst (λ x. Speaks end bytes (said ++ x) told) (append-nil (encoding_of reply))
      (before_some told bytes said state rest new end (words ∷ []) (reply ∷ []) s t (no_last_line ends.Quit end refl (or_may ends.Quit end how))
      (λ more. Walk.parted state words more reply after step (or_may ends.Quit end how))),
)

-- at SHUTDOWN
pub closes_asked : (told : List Told) (bytes said : Bytes) (state after : State) (rest new : Bytes) (words : Words) → Walked told bytes said state rest → Splits rest (words ∷ []) new
    → session_step state words ≡ (Given.Leaves, after) → Closes ends.Asked bytes said told
closes_asked told bytes said state after rest new words s t step = λ end how. (
  end,
  inl refl,
  subst (λ x. Speaks end bytes x told) (append-nil said)
      (before_some told bytes said state rest new end (words ∷ []) [] s t (no_last_line ends.Asked end refl (or_may ends.Asked end how))
      (λ more. Walk.left state words more after step (or_may ends.Asked end how))),
)

-- at bad input, whose error line was added
pub closes_bad : (told : List Told) (bytes said : Bytes) (state : State) (rest : Bytes) (kind : BadKind) (at place : ℕ) → Walked told bytes said state rest → ¬ (BeginsWhole rest) → BadAt bytes place kind
    → Closes (ends.Protocol kind at) bytes (said ++ protocol_error kind) told
closes_bad told bytes said state rest kind at place s no_whole bad = λ end how.
    elim how [
      | inl e ↦ (end, inl refl, subst (λ w. Speaks w bytes (said ++ protocol_error kind) told) (sym e) (speaks_done told bytes said state rest (ends.Protocol kind at) s no_whole tt))
      | inr cuts ↦ (ends.Protocol kind place, inr (cuts, (kind, place, bad, refl)), speaks_done told bytes said state rest (ends.Protocol kind place) s no_whole tt)
    ]

-- ---- what was written of it

shows_of : (id : ℕ) (why : Why) (bytes wrote : Bytes) (shown : Why) → Shown why bytes shown → Shows (session_of id why bytes wrote) shown
shows_of id why bytes wrote shown (inl e) = inl e
shows_of id why bytes wrote shown (inr x) = inr (inl x)

pub spoke_front : (id : ℕ) (why : Why) (bytes wrote out unsent : Bytes) (told : List Told) (shown : Why) → Shown why bytes shown → Speaks shown bytes out told → out ≡ wrote ++ unsent → (WritesAll why → unsent ≡ [])
    → Spoke (session_of id why bytes wrote) (told_items told)
spoke_front id why bytes wrote out unsent told shown shows s front whole = record {
  requests = s.requests;
  rest = s.rest;
  framed = s.framed;
  shown = shown;
  shows = shows_of id why bytes wrote shown shows;
  out = out;
  output = s.output;
  unsent = unsent;
  front = front;
  whole = whole;
}

-- it stopped before the rest
pub spoke_stopped : (id : ℕ) (why : Why) (bytes wrote said unsent : Bytes) (told : List Told) (state : State) (rest : Bytes) → Walked told bytes said state rest → MayStop why → said ≡ wrote ++ unsent
    → Spoke (session_of id why bytes wrote) (told_items told)
spoke_stopped id why bytes wrote said unsent told state rest s may front =
    spoke_front id why bytes wrote said unsent told why (inl refl) (speaks_stopped told bytes said state rest why s may) front (may_leave why may)

-- it was cut off on the way to its end
pub spoke_cut : (id : ℕ) (why end : Why) (bytes wrote said unsent : Bytes) (told : List Told) → Closes why bytes said told → CutsOff end → said ≡ wrote ++ unsent → Spoke (session_of id end bytes wrote) (told_items told)
spoke_cut id why end bytes wrote said unsent told closes cuts front =
    let c = closes end (inr cuts) in
    spoke_front id end bytes wrote said unsent told c.0 c.1 c.2 front (may_leave end (cuts_may end cuts))

-- it ended, and all was written
pub spoke_closed : (id : ℕ) (why : Why) (bytes wrote said : Bytes) (told : List Told) → Closes why bytes said told → said ≡ wrote → Spoke (session_of id why bytes wrote) (told_items told)
spoke_closed id why bytes wrote said told closes all =
    let c = closes why (inl refl) in
    spoke_front id why bytes wrote said [] told c.0 c.1 c.2 (all ∙ sym (append-nil wrote)) (λ _. refl)

-- ---- a session that is turned away

rest_of_none : (xs rest : Bytes) → [] ≡ xs ++ rest → rest ≡ []
rest_of_none [] rest e = sym e
rest_of_none (x ∷ xs) rest e = cc

none_whole : ¬ (BeginsWhole [])
none_whole =
    let found = every_list_is_framed [] in
    let f : Framed [] found.0 found.1.0 = found.1.1 in
    subst (λ r. ¬ (BeginsWhole r)) (rest_of_none (flat_map sent f.splits.frames) found.1.0 f.splits.whole) f.no_whole

speaks_away : SessionOutput [] ends.TooMany (told_items []) turned_away_line
speaks_away = record { replies = Error errors.TooMany ∷ []; walk = Walk.turned_away State.Ready refl; out_is = sym (append-nil turned_away_line) ∙ sym (append-nil (turned_away_line ++ [])) }

pub spoke_away : (id : ℕ) (why : Why) (bytes wrote said unsent : Bytes) (told : List Told) → TurnsAway id bytes said told → (why ≡ ends.TooMany) ⊎ (why ≡ ends.NoMemory) → (WritesAll why → unsent ≡ []) → said ≡ wrote ++ unsent
    → Spoke (session_of id why bytes wrote) (told_items told)
spoke_away id why bytes wrote said unsent told a how whole front = record {
  requests = [];
  rest = [];
  framed = subst (λ b. Framed b [] []) (sym a.nothing) record { splits = no_split []; no_whole = none_whole };
  shown = ends.TooMany;
  shows = elim how [
    | inl is ↦ inl (sym is)
    | inr is ↦ inr (inr (is, a.nothing, a.late, refl))
  ];
  out = said;
  output = subst (λ t. SessionOutput [] ends.TooMany (told_items t) said) (sym a.none) (subst (SessionOutput [] ends.TooMany (told_items [])) (sym a.line) speaks_away);
  unsent = unsent;
  front = front;
  whole = whole;
}
