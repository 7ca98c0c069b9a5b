-- What a scanner reads, and how two scanners one behind another read.
use Rattle.std.proofs.Common.{◌≡◌, ℕ, ◌<◌, ◌⊎◌, inl, inr, [], ◌∷◌, ◌++◌, length, refl, sym, ap, ◌∙◌, arith, append_assoc, length-append}
use Rattle.df_model.specs.Values.{Bytes}
use Rattle.df_model.specs.declared.session.BadKind.{BadKind}
use Rattle.df_resp.specs.Scan.{Scan, and_then}

-- ---- a language

-- these bytes begin with what spells this, and the rest stands behind it
pub record Spelled (A : Type 0) (Spells : A → Bytes → Type 0) (a : A) (bytes rest : Bytes) : Type 0 where
  pub text : Bytes
  pub is : Spells a text
  pub whole : bytes ≡ text ++ rest

-- some further bytes make these bytes spell something
pub record GoesOn (A : Type 0) (Spells : A → Bytes → Type 0) (bytes : Bytes) : Type 0 where
  pub a : A
  pub text : Bytes
  pub is : Spells a text
  pub more : Bytes
  pub goes_on : 0 < length more
  pub whole : bytes ++ more ≡ text

-- the bytes before the first bad one go on, and with it they don't, whatever follows
pub record FirstBad (A : Type 0) (scan : Bytes → Scan A) (Expects : Bytes → BadKind → Type 0) (bytes bad : Bytes) (kind : BadKind) : Type 0 where
  pub front : Bytes
  pub byte : ℕ
  pub behind : Bytes
  pub bad_is : bad ≡ byte ∷ behind
  pub whole : bytes ≡ front ++ byte ∷ behind
  pub before : scan front ≡ Scan.More
  pub from_here : (more : Bytes) → scan (front ++ byte ∷ more) ≡ Scan.Bad (byte ∷ more) kind
  pub expects : Expects front kind

-- The scanner reads this language: what spells something is read, whatever follows it; what is read is spelled so; where more is
-- wanted, some bytes complete it; and what is bad is bad from its first bad byte on.
pub record Reads (A : Type 0) (scan : Bytes → Scan A) (Spells : A → Bytes → Type 0) (Expects : Bytes → BadKind → Type 0) : Type 0 where
  pub sent : (a : A) (text rest : Bytes) → Spells a text → scan (text ++ rest) ≡ Scan.Whole a rest
  pub spelled : (bytes : Bytes) (a : A) (rest : Bytes) → scan bytes ≡ Scan.Whole a rest → Spelled A Spells a bytes rest
  pub more : (bytes : Bytes) → scan bytes ≡ Scan.More → GoesOn A Spells bytes
  pub bad : (bytes bad : Bytes) (kind : BadKind) → scan bytes ≡ Scan.Bad bad kind → FirstBad A scan Expects bytes bad kind

-- ---- the same language in other words

spelled_as : (A : Type 0) (S S' : A → Bytes → Type 0) (a : A) (bytes rest : Bytes) → ((text : Bytes) → S a text → S' a text) → Spelled A S a bytes rest → Spelled A S' a bytes rest
spelled_as A S S' a bytes rest to s = record { text = s.text; is = to s.text s.is; whole = s.whole }

pub reads_as : (A : Type 0) (scan : Bytes → Scan A) (S S' : A → Bytes → Type 0) (E E' : Bytes → BadKind → Type 0)
    → ((a : A) (text : Bytes) → S a text → S' a text) → ((a : A) (text : Bytes) → S' a text → S a text) → ((front : Bytes) (kind : BadKind) → E front kind → E' front kind) → Reads A scan S E → Reads A scan S' E'
reads_as A scan S S' E E' to back expects r = record {
  sent = λ a text rest is. r.sent a text rest (back a text is);
  spelled = λ bytes a rest e. spelled_as A S S' a bytes rest (to a) (r.spelled bytes a rest e);
  more = λ bytes e. (let g : GoesOn A S bytes = r.more bytes e in record { a = g.a; text = g.text; is = to g.a g.text g.is; more = g.more; goes_on = g.goes_on; whole = g.whole });
  bad = λ bytes bad kind e. (let b : FirstBad A scan E bytes bad kind = r.bad bytes bad kind e in
      record { front = b.front; byte = b.byte; behind = b.behind; bad_is = b.bad_is; whole = b.whole; before = b.before; from_here = b.from_here; expects = expects b.front kind b.expects });
}

-- ---- scans are told apart

abbrev pub a_bad : (A : Type 0) → Bytes → BadKind → Scan A
a_bad A bad kind = Scan.Bad bad kind

pub same_bad : (A : Type 0) (x y : Bytes) (k l : BadKind) → a_bad A x k ≡ a_bad A y l → (x ≡ y) × (k ≡ l)
same_bad A x y k l e = (cc, cc)

pub same_whole : (A : Type 0) (a b : A) (x y : Bytes) → Scan.Whole a x ≡ Scan.Whole b y → (a ≡ b) × (x ≡ y)
same_whole A a b x y e = (cc, cc)

-- ---- nothing is read, and this is given

abbrev pub IsGiven : (B : Type 0) → B → B → Bytes → Type 0
IsGiven B b given text = (given ≡ b) × (text ≡ [])

abbrev pub NeverBad : Bytes → BadKind → Type 0
NeverBad front kind = ⊥

pub reads_given : (B : Type 0) (b : B) → Reads B (λ bytes. Scan.Whole b bytes) (IsGiven B b) NeverBad
reads_given B b = record {
  sent = λ c text rest is. ap (λ x. Scan.Whole b (x ++ rest)) is.1 ∙ ap (λ x. Scan.Whole x rest) (sym is.0);
  spelled = λ bytes c rest e. (let g : (b ≡ c) × (bytes ≡ rest) = same_whole B b c bytes rest e in record { text = []; is = (sym g.0, refl); whole = g.1 });
  more = λ bytes e. absurd (let h : Scan.Whole b bytes ≡ Scan.More = e in cc);
  bad = λ bytes bad kind e. absurd (let h : Scan.Whole b bytes ≡ Scan.Bad bad kind = e in cc);
}

-- ---- one behind another

-- the bytes of the first and then of the second
pub record Both (A B : Type 0) (S : A → Bytes → Type 0) (T : A → B → Bytes → Type 0) (b : B) (text : Bytes) : Type 0 where
  pub a : A
  pub first : Bytes
  pub second : Bytes
  pub first_is : S a first
  pub second_is : T a b second
  pub whole : text ≡ first ++ second

-- the bad byte stands in the second
pub record Behind (A : Type 0) (S : A → Bytes → Type 0) (F : A → Bytes → BadKind → Type 0) (front : Bytes) (kind : BadKind) : Type 0 where
  pub a : A
  pub first : Bytes
  pub second : Bytes
  pub first_is : S a first
  pub expects : F a second kind
  pub whole : front ≡ first ++ second

abbrev pub InEither : (A : Type 0) → (A → Bytes → Type 0) → (Bytes → BadKind → Type 0) → (A → Bytes → BadKind → Type 0) → Bytes → BadKind → Type 0
InEither A S E F front kind = E front kind ⊎ Behind A S F front kind

-- what may stand behind the first is never nothing
pub record Some (B : Type 0) (T : B → Bytes → Type 0) : Type 0 where
  pub b : B
  pub text : Bytes
  pub is : T b text

module _ (A B : Type 0) (scan : Bytes → Scan A) (next : A → Bytes → Scan B) (S : A → Bytes → Type 0) (T : A → B → Bytes → Type 0) (E : Bytes → BadKind → Type 0) (F : A → Bytes → BadKind → Type 0)
    (r : Reads A scan S E) (n : (a : A) (text : Bytes) → S a text → Reads B (next a) (T a) (F a)) (some : (a : A) (text : Bytes) → S a text → Some B (T a)) where
  abbrev scan_both : Bytes → Scan B
  scan_both bytes = and_then (scan bytes) next

  -- the first is read, and the second goes on behind it
  behind_first : (a : A) (first rest : Bytes) → S a first → scan_both (first ++ rest) ≡ next a rest
  behind_first a first rest is = ap (λ s. and_then s next) (r.sent a first rest is)

  both_sent : (b : B) (text rest : Bytes) → Both A B S T b text → scan_both (text ++ rest) ≡ Scan.Whole b rest
  both_sent b text rest is =
      ap (λ x. scan_both (x ++ rest)) is.whole ∙ ap scan_both (append_assoc is.first is.second rest) ∙ behind_first is.a is.first (is.second ++ rest) is.first_is
      ∙ (n is.a is.first is.first_is).sent b is.second rest is.second_is

  both_spelled : (s : Scan A) (bytes : Bytes) (b : B) (rest : Bytes) → scan bytes ≡ s → and_then s next ≡ Scan.Whole b rest → Spelled B (Both A B S T) b bytes rest
  both_spelled Scan.More bytes b rest e f = cc
  both_spelled (Scan.Bad bad kind) bytes b rest e f = cc
  both_spelled (Scan.Whole a behind) bytes b rest e f =
      let p : Spelled A S a bytes behind = r.spelled bytes a behind e in
      let q : Spelled B (T a) b behind rest = (n a p.text p.is).spelled behind b rest f in
      record {
        text = p.text ++ q.text;
        is = record { a = a; first = p.text; second = q.text; first_is = p.is; second_is = q.is; whole = refl };
        whole = p.whole ∙ ap (λ x. p.text ++ x) q.whole ∙ sym (append_assoc p.text q.text rest);
      }

  both_more : (s : Scan A) (bytes : Bytes) → scan bytes ≡ s → and_then s next ≡ Scan.More → GoesOn B (Both A B S T) bytes
  both_more (Scan.Bad bad kind) bytes e f = cc
  both_more Scan.More bytes e f =
      let g : GoesOn A S bytes = r.more bytes e in
      let t : Some B (T g.a) = some g.a g.text g.is in
      record {
        a = t.b;
        text = g.text ++ t.text;
        is = record { a = g.a; first = g.text; second = t.text; first_is = g.is; second_is = t.is; whole = refl };
        more = g.more ++ t.text;
        goes_on = omega (arith, g.goes_on, length-append g.more t.text);
        whole = sym (append_assoc bytes g.more t.text) ∙ ap (λ x. x ++ t.text) g.whole;
      }
  both_more (Scan.Whole a behind) bytes e f =
      let p : Spelled A S a bytes behind = r.spelled bytes a behind e in
      let g : GoesOn B (T a) behind = (n a p.text p.is).more behind f in
      record {
        a = g.a;
        text = p.text ++ g.text;
        is = record { a = a; first = p.text; second = g.text; first_is = p.is; second_is = g.is; whole = refl };
        more = g.more;
        goes_on = g.goes_on;
        whole = ap (λ x. x ++ g.more) p.whole ∙ append_assoc p.text behind g.more ∙ ap (λ x. p.text ++ x) g.whole;
      }

  both_bad : (s : Scan A) (bytes bad : Bytes) (kind : BadKind) → scan bytes ≡ s → and_then s next ≡ Scan.Bad bad kind → FirstBad B scan_both (InEither A S E F) bytes bad kind
  both_bad Scan.More bytes bad kind e f = cc
  both_bad (Scan.Bad x k) bytes bad kind e f =
      let same : (x ≡ bad) × (k ≡ kind) = same_bad B x bad k kind f in
      let b : FirstBad A scan E bytes bad kind = r.bad bytes bad kind (e ∙ ap (λ y. Scan.Bad y k) same.0 ∙ ap (Scan.Bad bad) same.1) in
      record {
        front = b.front;
        byte = b.byte;
        behind = b.behind;
        bad_is = b.bad_is;
        whole = b.whole;
        before = ap (λ s. and_then s next) b.before;
        from_here = λ more. ap (λ s. and_then s next) (b.from_here more);
        expects = inl b.expects;
      }
  both_bad (Scan.Whole a behind) bytes bad kind e f =
      let p : Spelled A S a bytes behind = r.spelled bytes a behind e in
      let b : FirstBad B (next a) (F a) behind bad kind = (n a p.text p.is).bad behind bad kind f in
      record {
        front = p.text ++ b.front;
        byte = b.byte;
        behind = b.behind;
        bad_is = b.bad_is;
        whole = p.whole ∙ ap (λ x. p.text ++ x) b.whole ∙ sym (append_assoc p.text b.front (b.byte ∷ b.behind));
        before = behind_first a p.text b.front p.is ∙ b.before;
        from_here = λ more. ap scan_both (append_assoc p.text b.front (b.byte ∷ more)) ∙ behind_first a p.text (b.front ++ b.byte ∷ more) p.is ∙ b.from_here more;
        expects = inr (record { a = a; first = p.text; second = b.front; first_is = p.is; expects = b.expects; whole = refl });
      }

  pub reads_both : Reads B scan_both (Both A B S T) (InEither A S E F)
  reads_both = record {
    sent = both_sent;
    spelled = λ bytes b rest e. both_spelled (scan bytes) bytes b rest refl e;
    more = λ bytes e. both_more (scan bytes) bytes refl e;
    bad = λ bytes bad kind e. both_bad (scan bytes) bytes bad kind refl e;
  }

-- ---- another function that reads the same

pub reads_same : (A : Type 0) (scan scan' : Bytes → Scan A) (S : A → Bytes → Type 0) (E : Bytes → BadKind → Type 0) → ((bytes : Bytes) → scan' bytes ≡ scan bytes) → Reads A scan S E → Reads A scan' S E
reads_same A scan scan' S E same r = record {
  sent = λ a text rest is. same (text ++ rest) ∙ r.sent a text rest is;
  spelled = λ bytes a rest e. r.spelled bytes a rest (sym (same bytes) ∙ e);
  more = λ bytes e. r.more bytes (sym (same bytes) ∙ e);
  bad = λ bytes bad kind e. (let b : FirstBad A scan E bytes bad kind = r.bad bytes bad kind (sym (same bytes) ∙ e) in
      record { front = b.front; byte = b.byte; behind = b.behind; bad_is = b.bad_is; whole = b.whole; before = same b.front ∙ b.before; from_here = λ more. same (b.front ++ b.byte ∷ more) ∙ b.from_here more; expects = b.expects });
}
