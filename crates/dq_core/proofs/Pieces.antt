-- A piece on a connection that is held: what its slot takes, and how the plain server answers it.
use Rattle.std.proofs.Common.{◌≡◌, ℕ, false, List, [], ◌∷◌, ◌++◌, option_map, Option, Some, None, ◌⊎◌, inl, inr, refl, sym, ap, subst, ◌∙◌}
use Rattle.std.specs.Prelude.{IsSome, Contains}
use Rattle.dq_config.specs.Routing.{institution_named}
use Rattle.dq_pdu.specs.declared.pdu.Pdu.TheVariants.{Request as request_pdu}
use Rattle.std.proofs.lemmas.Bool.{false≢true}
use Rattle.dq_pdu.specs.declared.pdu.Pdu.{Pdu}
use Rattle.dq_pdu.specs.declared.fault.PduFault.{PduFault}
use Rattle.dq_pdu.specs.declared.inbox.InboxState.{InboxState as Inbox}
use Rattle.dq_pdu.specs.Inboxes.{InboxAfter}
use Rattle.dq_pdu.specs.Stream.{pdus_in}
use Rattle.dq_assoc.specs.declared.agreement.Agreement.{Agreement}
use Rattle.dq_assoc.specs.Associations.{HeldState}
use Rattle.dq_assoc.specs.Associations as held
use Rattle.dq_assoc.specs.declared.association.State.{State}
use Rattle.dq_assoc.specs.declared.association.State.TheVariants.{Waiting, Open}
use Rattle.dq_assoc.specs.declared.association.Verdict.{Verdict}
use Rattle.dq_assoc.specs.declared.association.Verdict.TheVariants.{Nowhere}
use Rattle.dq_assoc.specs.Negotiation.{agreement_of}
use Rattle.dq_assoc.specs.Table.{Input}
use Rattle.dq_assoc.specs.Inputs.{inputs_of, inputs}
use Rattle.dq_dimse.specs.Holding.{AllRefine}
use Rattle.dq_assoc.specs.After.{AssociationAfter, state_of, is_closed, agreement_in, association_from, inputs_from}
use Rattle.dq_assoc.specs.Holding.{Stands, accepted_in, held_agreement, held_state}
use Rattle.dq_assoc.proofs.HeldAssociations.{stands_state, stands_agreement}
use Rattle.dq_config.specs.declared.config.Institution.{Institution}
use Rattle.dq_core.specs.declared.slot.Slot.{Slot}
use Rattle.dq_core.specs.declared.slot.Taken.{Taken as HeldTaken}
use Rattle.dq_core.specs.Effects.{Taken}
use Rattle.dq_core.specs.Answers.{request_in, progress_of, inputs_added, verdict_at}
use Rattle.dq_core.specs.Connections.{Connection, with_piece}
use Rattle.dq_core.specs.Owners.{owner, live_of}
use Rattle.dq_core.specs.Shared.{World, answer_by}
use Rattle.dq_core.specs.Effects.{agreement_after, taken_inputs}
use Rattle.dq_core.specs.Slots.{associated_institution, StandsAt, IsHeld, IsTaken, Took, verdict_for, owner_with, routed_first, connection_answer, AreAlike}
use Rattle.dq_core.proofs.Composing.{none_stands}
use Rattle.dq_core.proofs.isolation.Streams.{AddsInputs, owner_stays}
use Rattle.dq_core.proofs.Alike.{alike-open, alike-waiting, alike-stranger, alike-unsound, unsound-closes}
use Rattle.dq_core.proofs.Owning.{Waits, Opens, Further, AreNamed, IsUnsound, no-home, no-inputs_yet, agreed, added, added-is, owner-named, first-owner}

-- the laws of the crates below
pub record Laws (institutions : List Institution) : Type 0 where
  pub waits : Waits
  pub opens : Opens
  pub adds : AddsInputs
  pub further : Further
  pub names : AreNamed institutions
  pub listed : (name : List ℕ) (i : Institution) → institution_named institutions name ≡ Some i → Contains institutions i

-- the counts are those of the connections
abbrev Counts : List Institution → World → (List ℕ → ℕ) → Type 0
Counts institutions world count = (name : List ℕ) → count name ≡ live_of institutions name world.connections

some-of : (o : Option Institution) → IsSome o → (i : Institution) × (o ≡ Some i)
some-of None h = cc
some-of (Some i) h = (i, refl)

some-is : (o : Option Institution) (i : Institution) → o ≡ Some i → IsSome o
some-is o i e = rw e refl

-- a slot before the piece, part by part
record Before (institutions : List Institution) (stream : List ℕ) (h : HeldState) (home : Option (List ℕ)) : Type 0 where
  faultless : (pdus_in stream).fault ≡ None
  association : AssociationAfter (pdus_in stream).list h
  not_closed : is_closed (state_of h) ≡ false
  home_is : home ≡ associated_institution (owner institutions stream) (agreement_in h)
  owned : (a : Agreement) → agreement_in h ≡ Some a → IsSome (owner institutions stream)

-- ---- what is taken is answered alike, where what is served is over what was agreed on

module _ (institutions : List Institution) (world : World) (c : Connection) (piece : List ℕ) (count : List ℕ → ℕ)
    (counts : Counts institutions world count) where
  -- for an owner of the stream, and for the institution that has the connection
  abbrev Told : State → Option Agreement → List Input → Option Agreement → Option Institution → Option Institution → Type 0
  Told state agreement xs agreed_on o q =
      ((taken_inputs (verdict_for count q) state xs).step.messages ≡ []) ⊎ (agreed_on ≡ agreement_after agreement xs)
      → AreAlike o (answer_by o institutions world c piece) q (connection_answer q world.rows agreed_on c.query (taken_inputs (verdict_for count q) state xs))

  told-same : (q : Option Institution) (xs : List Input) (agreed_on : Option Agreement) → option_map agreement_of (request_in (inputs c.stream)) ≡ None
      → inputs_added c.stream piece ≡ xs → Told Waiting None xs agreed_on q q
  told-same None xs agreed_on e f = λ k. rw f (alike-stranger world.rows xs (progress_of c []) agreed_on)
  told-same (Some i) xs agreed_on e f = λ k. rw (← counts i.name, e, f) (alike-waiting i (verdict_at i.associations (count i.name)) world.rows c.query xs agreed_on k)

  told-first : (o q : Option Institution) (xs : List Input) (agreed_on : Option Agreement) → option_map agreement_of (request_in (inputs c.stream)) ≡ None
      → inputs_added c.stream piece ≡ xs → (o ≡ q) ⊎ IsUnsound o xs → Told Waiting None xs agreed_on o q
  told-first o q xs agreed_on e f (inl same) = rw same (told-same q xs agreed_on e f)
  told-first o q xs agreed_on e f (inr (none, request, later, is, unsound)) = rw (none, is) (λ k.
      rw (f ∙ is) (alike-unsound q (verdict_for count q) world.rows request later (progress_of c []) agreed_on unsound))

  told-open : (i : Institution) (a : Agreement) (xs : List Input) (agreed_on : Option Agreement)
      → option_map agreement_of (request_in (inputs c.stream)) ≡ Some a → inputs_added c.stream piece ≡ xs → Told Open (Some a) xs agreed_on (Some i) (Some i)
  told-open i a xs agreed_on e f = λ k. rw (← counts i.name, e, f) (alike-open i (verdict_at i.associations (count i.name)) world.rows c.query a xs agreed_on k)

module _ (institutions : List Institution) (laws : Laws institutions) (c : Connection) (piece : List ℕ) (pdus : List Pdu) (fault : Option PduFault) where
  abbrev owner_after : Option Institution
  owner_after = owner institutions (c.stream ++ piece)

  -- who has the connection before its first PDU: the owner of the stream, or nobody, where the request is not sound
  whose-first : (home : Option (List ℕ)) → Before institutions c.stream held.Waiting home → inputs (c.stream ++ piece) ≡ inputs c.stream ++ inputs_of pdus fault
      → (owner_after ≡ owner_with institutions home pdus) ⊎ IsUnsound owner_after (inputs_of pdus fault)
  whose-first home b e =
      let none : inputs c.stream ≡ [] = no-inputs_yet laws.waits c.stream held.Waiting b.faultless b.association refl in
      let whole : inputs (c.stream ++ piece) ≡ inputs_of pdus fault = e ∙ ap (λ (xs : List Input). xs ++ inputs_of pdus fault) none in
      rw (whole, b.home_is, no-home (owner institutions c.stream)) (first-owner institutions pdus fault)

  -- the owner of an open connection has it from then on
  has-open : (home : Option (List ℕ)) (a : Agreement) → home ≡ associated_institution (owner institutions c.stream) (Some a) → IsSome (owner institutions c.stream)
      → (i : Institution) × (owner institutions c.stream ≡ Some i) × (owner_after ≡ Some i) × (owner_with institutions home pdus ≡ Some i)
  has-open home a e some =
      let i = some-of (owner institutions c.stream) some in (
        i.0,
        i.1,
        owner_stays laws.adds institutions c.stream piece i.0 i.1,
        ap (λ (h : Option (List ℕ)). owner_with institutions h pdus) (e ∙ ap (λ (o : Option Institution). associated_institution o (Some a)) i.1)
            ∙ owner-named institutions laws.names (request_in (inputs c.stream)) i.0 i.1,
      )

  told-at : (world : World) (count : List ℕ → ℕ) (counts : Counts institutions world count) (h : HeldState) (home : Option (List ℕ)) (next : Option Agreement)
      → Before institutions c.stream h home → inputs (c.stream ++ piece) ≡ inputs c.stream ++ inputs_from h pdus fault
      → Told institutions world c piece count counts (state_of h) (agreement_in h) (inputs_from h pdus fault) next
      owner_after (owner_with institutions home pdus)
  told-at world count counts held.Waiting home next b e =
      let nothing = agreed laws.waits laws.opens c.stream held.Waiting b.faultless b.association refl in
      told-first institutions world c piece count counts owner_after (owner_with institutions home pdus) (inputs_of pdus fault) next nothing
      (added-is c.stream piece (inputs_of pdus fault) e) (whose-first home b e)
  told-at world count counts (held.Open a assembly) home next b e =
      let has = has-open home a b.home_is (b.owned a refl) in
      let xs = inputs_from (held.Open a assembly) pdus fault in
      rw (has.2, has.3) (told-open institutions world c piece count counts has.0 a xs next
      (agreed laws.waits laws.opens c.stream (held.Open a assembly) b.faultless b.association refl) (added-is c.stream piece xs e))
  told-at world count counts (held.Closed agreed) home next b e = absurd (false≢true (sym b.not_closed))

  -- the slot stands for the institution that has the connection
  stands-at : (h : HeldState) (home : Option (List ℕ)) → Before institutions c.stream h home → let q = owner_with institutions home pdus in
      (home ≡ associated_institution q (agreement_in h)) × ((a : Agreement) → agreement_in h ≡ Some a → IsSome q)
  stands-at held.Waiting home b =
      (b.home_is ∙ no-home (owner institutions c.stream) ∙ sym (no-home (owner_with institutions home pdus)), λ a e. cc)
  stands-at (held.Open a assembly) home b =
      let has = has-open home a b.home_is (b.owned a refl) in (
        b.home_is ∙ ap (λ (o : Option Institution). associated_institution o (Some a)) (has.1 ∙ sym has.3),
        λ d e. some-is (owner_with institutions home pdus) has.0 has.3,
      )
  stands-at (held.Closed agreed) home b = absurd (false≢true (sym b.not_closed))

  -- one that is not closed has the owner of the stream
  same-first : (o q : Option Institution) (xs : List Input) (verdict : Verdict) → (o ≡ q) ⊎ IsUnsound o xs
      → (taken_inputs verdict Waiting xs).step.close ≡ false → q ≡ o
  same-first o q xs verdict (inl same) close = sym same
  same-first o q xs verdict (inr (none, request, later, is, unsound)) close =
      absurd (false≢true (sym (rw is at close) ∙ unsound-closes request verdict later unsound))

  same-owner : (verdict : Verdict) (h : HeldState) (home : Option (List ℕ)) → Before institutions c.stream h home
      → inputs (c.stream ++ piece) ≡ inputs c.stream ++ inputs_from h pdus fault
      → (taken_inputs verdict (state_of h) (inputs_from h pdus fault)).step.close ≡ false → owner_with institutions home pdus ≡ owner_after
  same-owner verdict held.Waiting home b e close =
      same-first owner_after (owner_with institutions home pdus) (inputs_of pdus fault) verdict (whose-first home b e) close
  same-owner verdict (held.Open a assembly) home b e close = let has = has-open home a b.home_is (b.owned a refl) in has.3 ∙ sym has.2
  same-owner verdict (held.Closed agreed) home b e close = absurd (false≢true (sym b.not_closed))

-- ---- what a slot's take ensures, and what follows of the piece

-- the slot took the PDUs and the fault
pub record TookBy (q : Option Institution) (verdict : Verdict) (pdus : List Pdu) (fault : Option PduFault) (old new : Slot) (t : HeldTaken) : Type 0 where
  pub taken_is : (h : HeldState) → Stands old.association h
      → IsTaken (held_agreement new.association) t (taken_inputs verdict (state_of h) (inputs_from h pdus fault))
  pub agrees : (h : HeldState) → Stands old.association h → (earlier : List Pdu) → StandsAt q old earlier → (t.step.messages ≡ [])
      ⊎ (held_agreement new.association ≡ agreement_after (agreement_in h) (inputs_from h pdus fault))
  pub stands : (earlier : List Pdu) → StandsAt q old earlier → (q ≡ None → verdict ≡ Nowhere) → t.step.close ≡ false
      → (fault ≡ None) × StandsAt q new (earlier ++ pdus)
  pub number : new.number ≡ old.number
  pub inbox : new.inbox ≡ old.inbox
  pub query : new.query ≡ old.query
  pub slot_institution : (held_state old.association ≡ Waiting) ⊎ (new.institution ≡ old.institution)

-- the inbox of the connection was fed the piece
pub record FedBy (stream piece : List ℕ) (pdus : List Pdu) (fault : Option PduFault) (inbox : Inbox) : Type 0 where
  pub list : (pdus_in (stream ++ piece)).list ≡ (pdus_in stream).list ++ pdus
  pub fault_is : (pdus_in (stream ++ piece)).fault ≡ fault
  pub stands : InboxAfter (stream ++ piece) inbox

abbrev pub fed_slot : Slot → Inbox → Slot
fed_slot old inbox = record old { inbox = inbox }

nowhere-none : (q : Option Institution) (count : List ℕ → ℕ) → q ≡ None → verdict_for count q ≡ Nowhere
nowhere-none q count e = rw e refl

module _ (institutions : List Institution) (laws : Laws institutions) (world : World) (c : Connection) (piece : List ℕ) (count : List ℕ → ℕ)
    (old : Slot) (pdus : List Pdu) (fault : Option PduFault) (inbox : Inbox) where
  abbrev owner_now : Option Institution
  owner_now = owner_with institutions old.institution pdus

  -- it is one of the institutions
  owner-listed : (home : Option (List ℕ)) (i : Institution) → owner_with institutions home pdus ≡ Some i → Contains institutions i
  owner-listed None i e = first-listed pdus e
    where
      first-listed : (list : List Pdu) → routed_first institutions list ≡ Some i → Contains institutions i
      first-listed [] e = cc
      first-listed (request_pdu request ∷ list) e = laws.listed i.name i (laws.names request.called request.calling i e)
      first-listed (pdu ∷ list) e = cc
  owner-listed (Some home) i e = laws.listed home i e

  module _ (is_held : IsHeld institutions old c) (fed : FedBy c.stream piece pdus fault inbox) where
    -- the association of the definitions that the slot's stands for
    abbrev first : HeldState
    first = association_from held.Waiting (pdus_in c.stream).list

    stands : Stands old.association first
    stands = is_held.stands.association.stands

    at-first : Before institutions c.stream first old.institution
    at-first = record {
      faultless = is_held.faultless;
      association = record { stands = refl };
      not_closed = ap is_closed (sym (stands_state old.association first stands)) ∙ is_held.stands.not_closed;
      home_is = is_held.stands.slot_institution ∙ ap (associated_institution (owner institutions c.stream)) (stands_agreement old.association first stands);
      owned = λ a e. is_held.stands.owned a (stands_agreement old.association first stands ∙ e);
    }

    -- a slot without an association has no home
    waits-homeless : (h : HeldState) (home : Option (List ℕ)) → Before institutions c.stream h home → state_of h ≡ Waiting → home ≡ None
    waits-homeless held.Waiting home b waiting = b.home_is ∙ no-home (owner institutions c.stream)
    waits-homeless (held.Open a assembly) home b waiting = cc
    waits-homeless (held.Closed agreed) home b waiting = absurd (false≢true (sym b.not_closed))

    still-home : (new : Slot) → (held_state old.association ≡ Waiting) ⊎ (new.institution ≡ old.institution) → (old.institution ≡ None) ⊎ (new.institution ≡ old.institution)
    still-home new (inl waiting) = inl (waits-homeless first old.institution at-first (sym (stands_state old.association first stands) ∙ waiting))
    still-home new (inr same) = inr same

    whole : inputs (c.stream ++ piece) ≡ inputs c.stream ++ inputs_from first pdus fault
    whole = added laws.further c.stream piece pdus fault first is_held.faultless (record { stands = refl }) fed.list fed.fault_is

    mid-stands : StandsAt owner_now (fed_slot old inbox) (pdus_in c.stream).list
    mid-stands = let s = stands-at institutions laws c piece pdus fault first old.institution at-first in
        record {
          association = is_held.stands.association;
          not_closed = is_held.stands.not_closed;
          slot_institution = s.0 ∙ ap (associated_institution owner_now) (sym (stands_agreement old.association first stands));
          owned = λ a e. s.1 a (sym (stands_agreement old.association first stands) ∙ e);
        }

    abbrev given : Taken
    given = taken_inputs (verdict_for count owner_now) (state_of first) (inputs_from first pdus fault)

    module _ (new : Slot) (t : HeldTaken) (took : TookBy owner_now (verdict_for count owner_now) pdus fault (fed_slot old inbox) new t) where
      is_given : IsTaken (held_agreement new.association) t given
      is_given = took.taken_is first stands

      no_messages : (t.step.messages ≡ []) ⊎ (held_agreement new.association ≡ agreement_after (agreement_in first) (inputs_from first pdus fault))
          → (given.step.messages ≡ []) ⊎ (held_agreement new.association ≡ agreement_after (agreement_in first) (inputs_from first pdus fault))
      no_messages (inl none) = inl (none_stands (accepted_in (held_agreement new.association)) given.step.messages
          (subst (λ helds. AllRefine (accepted_in (held_agreement new.association)) helds given.step.messages) none is_given.step.messages))
      no_messages (inr agreed) = inr agreed

      alike-answer : Counts institutions world count → let o = owner institutions (c.stream ++ piece) in
          AreAlike o (answer_by o institutions world c piece) owner_now
          (connection_answer owner_now world.rows (held_agreement new.association) c.query given)
      alike-answer counts =
          told-at institutions laws c piece pdus fault world count counts first old.institution (held_agreement new.association) at-first whole
          (no_messages (took.agrees first stands (pdus_in c.stream).list mid-stands))

      still-held : t.step.close ≡ false → IsHeld institutions new (with_piece c piece c.query) × (new.institution ≡ associated_institution owner_now (held_agreement new.association))
      still-held close =
          let s = took.stands (pdus_in c.stream).list mid-stands (nowhere-none owner_now count) close in
          let same = same-owner institutions laws c piece pdus fault (verdict_for count owner_now) first old.institution at-first whole
          (sym is_given.step.close ∙ close) in (
            record {
              number = took.number ∙ is_held.number;
              inbox = rw took.inbox fed.stands;
              faultless = fed.fault_is ∙ s.0;
              stands = rw (← same, fed.list) s.1;
            },
            s.1.slot_institution,
          )

  -- a piece on the connection that has a slot
  pub took : (new : Slot) (q : Option Institution) (verdict : Verdict) (t : HeldTaken) → IsHeld institutions old c → Counts institutions world count
      → FedBy c.stream piece pdus fault inbox → q ≡ owner_now → verdict ≡ verdict_for count q → TookBy q verdict pdus fault (fed_slot old inbox) new t
      → Took institutions world c piece q t old new
  took new q verdict t is_held counts fed qe ve by =
      let now : TookBy owner_now (verdict_for count owner_now) pdus fault (fed_slot old inbox) new t = rw (ve, qe) at by in
      rw qe (record {
        taken = given is_held fed;
        stands = is_given is_held fed new t now;
        answer = alike-answer is_held fed new t now counts;
        slot_institution = (mid-stands is_held fed).slot_institution;
        query = by.query;
        stays = still-home is_held fed new by.slot_institution;
        held = λ close. still-held is_held fed new t now ((is_given is_held fed new t now).step.close ∙ close);
        listed = owner-listed old.institution;
      })
