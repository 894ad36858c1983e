-- The turns of the plain server, over the slots of the connections that are held.
use Rattle.std.proofs.Common.{◌≡◌, ◌≢◌, ℕ, zero, suc, ◌+◌, ◌<◌, ◌^◌, ◌==◌, Bool, true, false, ◌&&◌, ◌||◌, not, List, [], ◌∷◌, ◌++◌, length, Option, Some, None, is_some, ◌⊎◌, inl, inr, refl, sym, ap, subst, ◌∙◌, arith, length-set, get_or}
use Rattle.std.specs.Map.{lookup, remove_entry}
use Rattle.std.specs.Ordering.{nat_cmp}
use Rattle.std.specs.BTreeMap.{BTreeMap, IsOrdered, insert_entry}
use Rattle.std.specs.Str.{bytes_eq}
use Rattle.std.proofs.lemmas.List.{append-nil}
use Rattle.std.proofs.lemmas.Slice.Eq.{bytes_eq-Decides}
use Rattle.std.specs.List.{list_any}
use Rattle.slab.specs.Slab.{Slab, get, entries, entries_from, ContainsKey, Updates, with_value}
use Rattle.slab.proofs.SlabLemmas.{Updates-with_value}
use Rattle.std.proofs.lemmas.Bool.{false≢true}
use Rattle.std.proofs.lemmas.Bool.Decides.{nat_tests}
use Rattle.std.proofs.Math.Seq.{drop-length}
use Rattle.dq_pdu.specs.Stream.{pdus_within}
use Rattle.dq_pdu.specs.Inboxes.{InboxAfter}
use Rattle.dq_assoc.specs.declared.agreement.Agreement.{Agreement}
use Rattle.dq_assoc.specs.Holding.{held_agreement}
use Rattle.dq_assoc.specs.Inputs.{inputs}
use Rattle.dq_config.specs.declared.config.Institution.{Institution}
use Rattle.dq_config.specs.Routing.{institution_named}
use Rattle.dq_tables.specs.declared.row.Row.{Row}
use Rattle.dq_tables.specs.Rows.{Edit, IsRising, of, after_all}
use Rattle.dq_tables.proofs.Lens.{others_all}
use Rattle.dq_archive.specs.declared.additions.Addition.{Addition}
use Rattle.dq_archive.specs.Additions.{IsTold}
use Rattle.dq_core.specs.declared.event.Event.TheVariants as event
use Rattle.dq_core.specs.declared.event.Reply.{Reply}
use Rattle.dq_core.specs.declared.event.Reply.TheVariants as reply
use Rattle.dq_core.specs.declared.connections.Connections.{Connections}
use Rattle.dq_core.specs.declared.slot.Slot.{Slot}
use Rattle.dq_core.specs.declared.additions.Additions.{Additions}
use Rattle.dq_core.specs.declared.open_associations.OpenAssociations.{OpenAssociations}
use Rattle.dq_core.specs.declared.slot.Taken.{Taken as HeldTaken}
use Rattle.dq_core.specs.Effects.{Taken}
use Rattle.dq_core.specs.declared.pages.OpenQuery.{OpenQuery as HeldQuery}
use Rattle.dq_core.specs.Pages.{OpenQuery, Page, next_page}
use Rattle.dq_core.specs.Queries.{query_by, IsBegun, IsToldBy}
use Rattle.dq_core.specs.Additions.{log_at, log_of, with_log, owner_place}
use Rattle.dq_core.specs.Answers.{Answer, inputs_added, after_piece}
use Rattle.dq_core.specs.Connections.{Connection, new_connection, with_piece, with_query, is_pending, connection_in, without, with_connection}
use Rattle.dq_core.specs.Stepping.{IsPartOf}
use Rattle.dq_core.specs.Effects.{AnswerApplied, AnswerPartlyApplied}
use Rattle.dq_core.specs.Owners.{owner, live_of}
use Rattle.dq_core.specs.Histories.{is_above}
use Rattle.dq_core.specs.OpenAssociations.{institution_index, tally_of_name, IsTallied, one_less, one_more, retallied_by}
use Rattle.dq_core.specs.Shared.{World, turn, owner_turn, pull_turn, answer_by, operations_by}
use Rattle.dq_core.specs.Slots.{StandsAt, has_slot, has_query, has_query_at, has_search, IsHeld, IsBegunAt, query_at, Asks, AreAt, AreHeld, Turned, IsTaken, Took, IsUnsearched, is_searching, connection_answer, associated_institution, is_of_institution}
use Rattle.dq_core.proofs.Framing.{Kept, all-kept, unsearched-kept, all-stay, own-log, other-log, same-many}
use Rattle.dq_core.proofs.OpenQueries.{IsFree, Comes, comes, Stays, goes-on}
use Rattle.dq_core.proofs.Owning.{Waits, no-home, counted-held}
use Rattle.dq_core.proofs.Slotted.{has_number, Found, found, found-none, left, changed, opened, inserts-last, all-below, none-above, all-left, same-length}
use Rattle.dq_core.proofs.OpenAssociations.{bit, live-left, live-changed, live-opened, live_within, ended-anywhere, retally}

-- a slot of a connection that was just opened
new-held : (institutions : List Institution) (slot : Slot) (number : ℕ) → slot.number ≡ number → InboxAfter [] slot.inbox
    → ((owner : Option Institution) → StandsAt owner slot []) → IsHeld institutions slot (new_connection number)
unfolding pdus_within
new-held institutions slot number n i s =
    record { number = n; inbox = i; faultless = refl; stands = s (owner institutions []) }

new-asks : (institutions : List Institution) (rows : List Row) (logs : List (List Addition)) (slot : Slot) (number : ℕ)
    → ((owner : Option Institution) → StandsAt owner slot []) → slot.query ≡ None → Asks institutions rows logs slot (new_connection number)
new-asks institutions rows logs slot number s q = record {
  begun = subst (λ (o : Option HeldQuery). IsBegunAt institutions logs slot.institution o) (sym q) tt;
  query = λ i. query_at institutions rows logs ((s None).slot_institution i) (q i);
}

-- no octets add no input
nothing-added : (stream : List ℕ) → inputs_added stream [] ≡ []
nothing-added stream = rw (append-nil stream) (drop-length (inputs stream))

-- a connection in its own place
with-same : (c : Connection) (cs : List Connection) → connection_in c.number cs ≡ Some c → with_connection c cs ≡ cs
with-same c [] e = cc
with-same c (d ∷ cs) e = grind (arith, nat_tests, with-same c cs)

close-of : (q : Option Institution) (rows : List Row) (agreed : Option Agreement) (query : Option OpenQuery) (t : Taken)
    → (connection_answer q rows agreed query t).close ≡ t.step.close
close-of None rows agreed query t = refl
close-of (Some i) rows agreed query t = refl

holds-after : (institutions : List Institution) (rows : List Row) (held : Connections) (c : Connection) (piece : List ℕ) (x : Answer) (cs : List Connection) (close : Bool)
    → x.close ≡ close → (close ≡ true → AreHeld institutions rows held (without c.number cs))
    → (close ≡ false → AreHeld institutions rows held (with_connection (with_piece c piece x.next.query) cs)) → AreHeld institutions rows held (after_piece c piece x cs)
holds-after institutions rows held c piece x cs true e closed open_on = rw e (closed refl)
holds-after institutions rows held c piece x cs false e closed open_on = rw e (open_on refl)

-- the counts, where a connection that was opened has no association
opened-tallied : (institutions : List Institution) (counts : List ℕ) (cs : List Connection) (number : ℕ) → IsTallied institutions counts cs
    → IsTallied institutions counts (cs ++ new_connection number ∷ [])
unfolding pdus_within
opened-tallied institutions counts cs number t name = t name ∙ sym (live-opened institutions name number cs refl)

-- each count is of some of the connections
module _ (institutions : List Institution) (rows : List Row) (held : Connections) (cs : List Connection) (h : AreHeld institutions rows held cs) where
  pub few : length held.places.entries < 2 ^ 63 → (name : List ℕ) → tally_of_name institutions held.tally.counts.items name < 18446744073709551615
  few small name =
      omega (arith, small, same-length institutions rows held.additions.logs.items held.slots held.places.entries cs h.at, live_within institutions name cs, h.tallied name)

  -- what is left of the counts without a connection
  pub left-count : Waits → (number : ℕ) (slot : Slot) (c : Connection) → connection_in number cs ≡ Some c → IsHeld institutions slot c → (name : List ℕ)
      → live_of institutions name (without number cs) + bit (is_of_institution name slot.institution) ≡ tally_of_name institutions held.tally.counts.items name
  left-count waits number slot c e is name =
      rw (counted-held waits institutions name slot c is, h.tallied name) (live-left institutions name number cs c e)

-- what ended is no longer counted
ended-tallied : (institutions : List Institution) (held : Connections) (cs : List Connection) (number : ℕ) (home : Option (List ℕ))
    → ((name : List ℕ) → live_of institutions name (without number cs) + bit (is_of_institution name home) ≡ tally_of_name institutions held.tally.counts.items name)
    → (counts : List ℕ) → (home ≡ None → counts ≡ held.tally.counts.items)
    → ((name : List ℕ) → home ≡ Some name → counts ≡ one_less held.tally.counts.items (institution_index institutions name))
    → IsTallied institutions counts (without number cs)
ended-tallied institutions held cs number None lefts counts none some name = rw (none refl) (omega (arith, lefts name))
ended-tallied institutions held cs number (Some home) lefts counts none some name =
    let own = lefts home in
    let same : bytes_eq home home ≡ true = (bytes_eq-Decides home home).1 refl in
    let first : live_of institutions home (without number cs) + 1 ≡ tally_of_name institutions held.tally.counts.items home = rw same at own in
    let now = ended-anywhere institutions held.tally.counts.items home (omega (arith, first)) name in
    rw (some home refl) (omega (arith, now, lefts name))

less-length : (counts : List ℕ) (o : Option ℕ) → length (one_less counts o) ≡ length counts
less-length counts None = refl
less-length counts (Some place) = length-set counts place _

more-length : (counts : List ℕ) (o : Option ℕ) → length (one_more counts o) ≡ length counts
more-length counts None = refl
more-length counts (Some place) = length-set counts place _

retally-length : (institutions : List Institution) (counts : List ℕ) (q : Option Institution) (was is : Bool)
    → length (retallied_by institutions counts q was is) ≡ length counts
retally-length institutions counts None was is = refl
retally-length institutions counts (Some i) true true = refl
retally-length institutions counts (Some i) false false = refl
retally-length institutions counts (Some i) true false = less-length counts (institution_index institutions i.name)
retally-length institutions counts (Some i) false true = more-length counts (institution_index institutions i.name)

and-false : (b : Bool) → (b && false) ≡ false
and-false true = refl
and-false false = refl

or-none : (a b : Bool) → (a || b) ≡ false → (a ≡ false) × (b ≡ false)
or-none true b e = cc
or-none false b e = (refl, e)

and-true : (b : Bool) → (b && true) ≡ b
and-true true = refl
and-true false = refl

-- what no entry of a slab passes none of its values passes
passed-by-none : {A : Type 0} (test : A → Bool) (first : ℕ) (slots : List (Option A)) → list_any (λ (e : ℕ × A). test e.1) (entries_from first slots) ≡ false
    → (at : ℕ) (value : A) → get_or slots at None ≡ Some value → test value ≡ false
passed-by-none test first [] none at value found_there = cc
passed-by-none test first (None ∷ slots) none zero value found_there = cc
passed-by-none test first (None ∷ slots) none (suc at) value found_there = passed-by-none test (first + 1) slots none at value found_there
passed-by-none test first (Some x ∷ slots) none zero value found_there =
    let is : x ≡ value = cc in ap test (sym is) ∙ (or-none (test x) _ none).0
passed-by-none test first (Some x ∷ slots) none (suc at) value found_there =
    passed-by-none test (first + 1) slots (or-none (test x) _ none).1 at value found_there

pub none-searches : (name : List ℕ) (slots : Slab Slot) → list_any (λ (e : ℕ × Slot). is_searching name e.1) (entries slots) ≡ false
    → (place : ℕ) (slot : Slot) → get slots place ≡ Some slot → is_searching name slot ≡ false
none-searches name slots none place slot found_there = passed-by-none (is_searching name) 0 slots.slots none place slot found_there

-- and the other way round
passes-none : {A : Type 0} (test : A → Bool) (first : ℕ) (slots : List (Option A))
    → ((at : ℕ) (value : A) → get_or slots at None ≡ Some value → test value ≡ false) → list_any (λ (e : ℕ × A). test e.1) (entries_from first slots) ≡ false
passes-none test first [] none = refl
passes-none test first (None ∷ slots) none = passes-none test (first + 1) slots (λ at value there. none (suc at) value there)
passes-none test first (Some x ∷ slots) none = rw (none zero x refl) (passes-none test (first + 1) slots (λ at value there. none (suc at) value there))

pub searches-none : (name : List ℕ) (slots : Slab Slot) → ((place : ℕ) (slot : Slot) → get slots place ≡ Some slot → is_searching name slot ≡ false)
    → list_any (λ (e : ℕ × Slot). is_searching name e.1) (entries slots) ≡ false
searches-none name slots none = passes-none (is_searching name) 0 slots.slots none

-- a slot that was written is read again, and written again
pub same-slot : (slots : Slab Slot) (place : ℕ) (old new again : Slot) → get slots place ≡ Some old → get (with_value slots place new) place ≡ Some again → again ≡ new
same-slot slots place old new again there seen =
    let present : ContainsKey slots place = rw there refl in
    let both : Some again ≡ Some new = sym seen ∙ (Updates-with_value slots place new present).changed in cc

pub still-there : (slots : Slab Slot) (place : ℕ) (old new : Slot) → get slots place ≡ Some old → get (with_value slots place new) place ≡ None → ⊥
still-there slots place old new there none =
    let present : ContainsKey slots place = rw there refl in
    let both : Some new ≡ None = sym (Updates-with_value slots place new present).changed ∙ none in cc

pub written-twice : (slots : Slab Slot) (place : ℕ) (old new last : Slot) → get slots place ≡ Some old
    → let written = with_value (with_value slots place new) place last in
    (get written place ≡ Some last) × ((other : ℕ) → other ≢ place → get written other ≡ get slots other)
written-twice slots place old new last there =
    let present : ContainsKey slots place = rw there refl in
    let first = Updates-with_value slots place new present in
    let still : ContainsKey (with_value slots place new) place = rw first.changed refl in
    let second = Updates-with_value (with_value slots place new) place last still in
    (second.changed, λ other apart. second.others other apart ∙ first.others other apart)

-- the log that was taken is that of who has the connection, or nothing is searched there
pub taken-log : (institutions : List Institution) (logs : List (List Addition)) (q : Option Institution) (slots : Slab Slot) (log : List Addition) (place : Option ℕ)
    → place ≡ owner_place institutions q → (log ≡ log_at logs place) ⊎ IsUnsearched slots q
    → (log ≡ log_at logs (owner_place institutions q)) ⊎ IsUnsearched slots q
taken-log institutions logs q slots log place at (inl same) = inl (same ∙ ap (log_at logs) at)
taken-log institutions logs q slots log place at (inr free) = inr free

module _ (institutions : List Institution) (world : World) (number : ℕ) where
  pub opens : (before after : Connections) (place : ℕ) (slot : Slot) → AreHeld institutions world.rows before world.connections
      → is_above before.newest number ≡ true → slot.number ≡ number → InboxAfter [] slot.inbox
      → ((owner : Option Institution) → StandsAt owner slot []) → slot.query ≡ None → get before.slots place ≡ None → Updates before.slots after.slots place (Some slot)
      → after.places.entries ≡ insert_entry nat_cmp before.places.entries number place → IsOrdered nat_cmp after.places → after.newest ≡ Some number
      → after.tally ≡ before.tally → after.additions ≡ before.additions
      → Turned institutions (turn institutions world (event.Open number)) reply.Done world.rows world.rows after
  opens before after place slot h a n i s q v u e o w t l =
      let logs = before.additions.logs.items in
      let below = all-below before.newest number before.places.entries a h.below in
      let entries : after.places.entries ≡ before.places.entries ++ (number, place) ∷ [] =
      e ∙ inserts-last institutions world.rows logs number place before.places.entries below in
      record {
        replied = refl;
        rows = refl;
        holds = record {
          at = rw (entries, l) (opened institutions world.rows logs number place before.slots after.slots before.places.entries world.connections slot (new_connection number)
              u.others v u.changed (new-held institutions slot number n i s) (new-asks institutions world.rows logs slot number s q) refl h.at);
          ordered = o;
          below = rw (entries, w) (none-above number place before.places.entries below);
          tallied = rw t (opened-tallied institutions before.tally.counts.items world.connections number h.tallied);
          counted = rw t h.counted;
          logged = rw l h.logged;
        };
      }

  abbrev Finds : Connections → Option ℕ → Type 0
  Finds held o = lookup (has_number number) held.places.entries ≡ o

  -- the turn of a number that no slot has
  pub ends-none : (held : Connections) → AreHeld institutions world.rows held world.connections → Finds held None
      → Turned institutions (turn institutions world (event.End number)) reply.Ignored world.rows world.rows held
  ends-none held h e =
      rw (found-none institutions world.rows held.additions.logs.items number held.slots held.places.entries world.connections h.at e)
      (record { replied = refl; rows = refl; holds = h })

  -- the slot of a number is at its place
  abbrev pub FoundAt : Connections → ℕ → Type 0
  FoundAt held place = Found institutions world.rows held.additions.logs.items number place held.slots world.connections

  pub found-at : (held : Connections) (place : ℕ) → AreHeld institutions world.rows held world.connections → Finds held (Some place) → FoundAt held place
  found-at held place h e = found institutions world.rows held.additions.logs.items number place held.slots held.places.entries world.connections h.at e

  pub not-there : (held : Connections) (place : ℕ) → AreHeld institutions world.rows held world.connections → Finds held (Some place)
      → get held.slots place ≡ None → ⊥
  not-there held place h e n =
      let at = found-at held place h e in
      let both : Some at.slot ≡ None = sym at.there ∙ n in cc

  -- what is held without the connection with the number, once the rows and the additions are others
  pub left-held : (rows : List Row) (before after : Connections) (place : ℕ) → AreHeld institutions rows before world.connections → Finds before (Some place)
      → ((other : ℕ) → other ≢ place → get after.slots other ≡ get before.slots other)
      → after.places.entries ≡ remove_entry (has_number number) before.places.entries → IsOrdered nat_cmp after.places → after.newest ≡ before.newest
      → IsTallied institutions after.tally.counts.items (without number world.connections)
      → length after.tally.counts.items ≡ length before.tally.counts.items → after.additions ≡ before.additions
      → AreHeld institutions rows after (without number world.connections)
  left-held rows before after place h e u p o w t l a =
      let logs = before.additions.logs.items in
      let at = found institutions rows logs number place before.slots before.places.entries world.connections h.at e in record {
        at = rw (p, a) (left institutions rows logs number place before.slots after.slots at.slot u at.there (at.held.number ∙ at.same) before.places.entries
            world.connections h.ordered h.at e);
        ordered = o;
        below = rw (p, w) (all-left (λ (x : ℕ × ℕ). is_above before.newest x.0 ≡ false) (has_number number) before.places.entries h.below);
        tallied = t;
        counted = l ∙ h.counted;
        logged = rw a h.logged;
      }

  pub ends-found : Waits → (before after : Connections) (place : ℕ) → AreHeld institutions world.rows before world.connections → Finds before (Some place)
      → Updates before.slots after.slots place None → after.places.entries ≡ remove_entry (has_number number) before.places.entries
      → IsOrdered nat_cmp after.places → after.newest ≡ before.newest → after.additions ≡ before.additions
      → ((slot : Slot) → get before.slots place ≡ Some slot → slot.institution ≡ None → after.tally.counts.items ≡ before.tally.counts.items)
      → ((slot : Slot) (name : List ℕ) → get before.slots place ≡ Some slot → slot.institution ≡ Some name
      → after.tally.counts.items ≡ one_less before.tally.counts.items (institution_index institutions name))
      → Turned institutions (turn institutions world (event.End number)) reply.Done world.rows world.rows after
  ends-found waits before after place h e u p o w a none some =
      let at = found-at before place h e in
      let counts = after.tally.counts.items in
      let tally : IsTallied institutions counts (without number world.connections) =
      ended-tallied institutions before world.connections number at.slot.institution
      (left-count institutions world.rows before world.connections h waits number at.slot at.connection at.is_in at.held) counts
      (none at.slot at.there) (λ name. some at.slot name at.there) in
      rw at.is_in (record {
        replied = refl;
        rows = refl;
        holds = rw at.same (left-held world.rows before after place h e u.others p o w tally (ended-length before counts at.slot.institution (none at.slot at.there)
            (λ name. some at.slot name at.there)) a);
      })
    where
      ended-length : (before : Connections) (counts : List ℕ) (home : Option (List ℕ)) → (home ≡ None → counts ≡ before.tally.counts.items)
          → ((name : List ℕ) → home ≡ Some name → counts ≡ one_less before.tally.counts.items (institution_index institutions name))
          → length counts ≡ length before.tally.counts.items
      ended-length before counts None none some = rw (none refl) refl
      ended-length before counts (Some name) none some = rw (some name refl) (less-length before.tally.counts.items (institution_index institutions name))

  -- ---- pieces

  module _ (piece : List ℕ) where
    pub piece-none : (held : Connections) (rows : List Row) → AreHeld institutions world.rows held world.connections → Finds held None
        → rows ≡ world.rows → Turned institutions (turn institutions world (event.Piece number piece)) reply.Ignored world.rows rows held
    piece-none held rows h e f =
        rw (found-none institutions world.rows held.additions.logs.items number held.slots held.places.entries world.connections h.at e, f)
        (record { replied = refl; rows = refl; holds = h })

    -- an empty piece is answered by nothing
    empty-turn : (o : Option Institution) (c : Connection) (held : Connections) → c.number ≡ number
        → AreHeld institutions world.rows held (with_connection (with_piece c [] c.query) world.connections)
        → Turned institutions (owner_turn o institutions world c []) (reply.Octets number [] false) world.rows world.rows held
    empty-turn None c held e h = rw (nothing-added c.stream) (record { replied = rw e refl; rows = refl; holds = h })
    empty-turn (Some i) c held e h = rw (nothing-added c.stream) (record { replied = rw e refl; rows = refl; holds = h })

    pub piece-empty : (held : Connections) (place : ℕ) (rows : List Row) (r : Reply) → AreHeld institutions world.rows held world.connections
        → Finds held (Some place) → piece ≡ [] → rows ≡ world.rows → r ≡ reply.Octets number [] false
        → Turned institutions (turn institutions world (event.Piece number piece)) r world.rows rows held
    piece-empty held place rows r h e p f g =
        let at = found-at held place h e in
        let c = at.connection in
        let same : with_connection (with_piece c [] c.query) world.connections ≡ world.connections =
        rw append-nil (with-same c world.connections (rw at.same at.is_in)) in
        rw (p, at.is_in, f, g) (empty-turn (owner institutions (c.stream ++ [])) c held at.same (rw same h))

    -- what the taking of a piece ensures of the slot's connection
    abbrev pub TookAny : List ℕ → Option Institution → HeldTaken → Slot → Slot → Type 0
    TookAny counts q t old new =
        (c : Connection) → IsHeld institutions old c → IsTallied institutions counts world.connections → Took institutions world c piece q t old new

    module _ (before : Connections) (place : ℕ) (old new : Slot) (q : Option Institution) (t : HeldTaken)
        (h : AreHeld institutions world.rows before world.connections) (e : Finds before (Some place)) (there : get before.slots place ≡ Some old)
        (took : TookAny before.tally.counts.items q t old new) where
      abbrev logs : List (List Addition)
      logs = before.additions.logs.items

      abbrev at : FoundAt before place
      at = found-at before place h e

      pub is-old : at.slot ≡ old
      is-old = let both : Some at.slot ≡ Some old = sym at.there ∙ there in cc

      pub is-held-now : IsHeld institutions old at.connection
      is-held-now = rw (← is-old) at.held

      asks-now : Asks institutions world.rows logs old at.connection
      asks-now = rw (← is-old) at.asks

      abbrev pub told : Took institutions world at.connection piece q t old new
      told = took at.connection is-held-now h.tallied

      -- the counts after a piece, where the slot has a home or none
      counts-now : length before.places.entries < 2 ^ 63 → Waits → (next : Option (List ℕ)) (b : Option Agreement) → next ≡ associated_institution q b → (name : List ℕ)
          → tally_of_name institutions (retallied_by institutions before.tally.counts.items q (is_some old.institution) (is_some next)) name + bit (is_of_institution name old.institution)
          ≡ tally_of_name institutions before.tally.counts.items name + bit (is_of_institution name next)
      counts-now small waits next b f =
          let lefts = left-count institutions world.rows before world.connections h waits number old at.connection at.is_in is-held-now in
          retally institutions before.tally.counts.items q old.institution next (held_agreement old.association) b told.slot_institution f h.counted told.listed
          (few institutions world.rows before world.connections h small) (λ name. omega (arith, lefts name))

      -- ---- the C-FIND that is open, as the piece is taken

      -- what was added is logged, or the log was begun anew where no C-FIND is open
      abbrev pub IsLog : List Addition → Type 0
      IsLog log = (log ≡ log_at logs (owner_place institutions q)) ⊎ IsUnsearched (with_value before.slots place new) q

      present : ContainsKey before.slots place
      present = rw there refl

      free-one : (o : Option Institution) → IsUnsearched (with_value before.slots place new) o → IsFree o new.institution new.query
      free-one None free = free
      free-one (Some i) free = free place new (Updates-with_value before.slots place new present).changed

      comes-from : (log : List Addition) → IsLog log → (log ≡ log_at logs (owner_place institutions q)) ⊎ IsFree q new.institution old.query
      comes-from log (inl is) = inl is
      comes-from log (inr free) = inr (subst (λ (o : Option HeldQuery). IsFree q new.institution o) told.query (free-one q free))

      came : (log : List Addition) → IsLog log → Comes institutions world.rows logs q old.institution old.query log
      came log is =
          comes institutions world.rows logs q (held_agreement old.association) old.institution new.institution old.query log told.slot_institution told.stays asks-now.begun (comes-from log is)

      pub begun-as-taken : (log : List Addition) → IsLog log → IsBegun log new.query
      begun-as-taken log is = subst (IsBegun log) (sym told.query) (came log is).1

      pub asked-as-taken : (log : List Addition) → IsLog log → query_by q world.rows log new.query ≡ at.connection.query
      asked-as-taken log is = ap (query_by q world.rows log) told.query ∙ (came log is).0 ∙ asks-now.query

      -- ---- once it is answered: the rows, the logs, and what is left of the C-FIND

      -- what was added is told of who has the connection, and of all others nothing was added
      pub record Moves (rows : List Row) (log next : List Addition) (new_logs : List (List Addition)) (left : Option HeldQuery) : Type 0 where
        pub is : IsLog log
        pub told_by : IsToldBy q world.rows rows log next
        pub logs_are : new_logs ≡ with_log (with_log logs (owner_place institutions q) []) (owner_place institutions q) next
        pub rising : IsRising world.rows
        pub changes : List (List Edit)
        pub made : rows ≡ after_all (operations_by q changes) world.rows
        pub named : (i : Institution) → q ≡ Some i → institution_named institutions i.name ≡ Some i
        pub unserved : associated_institution q (held_agreement new.association) ≡ None → left ≡ new.query
        pub begun : IsBegun next left

      module _ (rows : List Row) (log next : List Addition) (new_logs : List (List Addition)) (left : Option HeldQuery) (m : Moves rows log next new_logs left) where
        -- the logs of who has it, and of others
        own-next : (i : Institution) → q ≡ Some i → log_of institutions new_logs i.name ≡ next
        own-next i is =
            let listed = told.listed i is in
            let first = with_log logs (institution_index institutions i.name) [] in
            let logs_is : new_logs ≡ with_log first (institution_index institutions i.name) next =
            m.logs_are ∙ ap (λ (o : Option Institution). with_log (with_log logs (owner_place institutions o) []) (owner_place institutions o) next) is in
            ap (λ (l : List (List Addition)). log_of institutions l i.name) logs_is
            ∙ own-log institutions first i listed (same-many institutions logs i listed h.logged []) next

        others-next : (i : Institution) → q ≡ Some i → (other : List ℕ) → other ≢ i.name → log_of institutions new_logs other ≡ log_of institutions logs other
        others-next i is other apart =
            let listed = told.listed i is in
            let first = with_log logs (institution_index institutions i.name) [] in
            let logs_is : new_logs ≡ with_log first (institution_index institutions i.name) next =
            m.logs_are ∙ ap (λ (o : Option Institution). with_log (with_log logs (owner_place institutions o) []) (owner_place institutions o) next) is in
            ap (λ (l : List (List Addition)). log_of institutions l other) logs_is
            ∙ other-log institutions first i listed (same-many institutions logs i listed h.logged []) next other apart
            ∙ other-log institutions logs i listed h.logged [] other apart

        both-others : (i : Institution) → q ≡ Some i → (other : List ℕ) → other ≢ i.name
            → (of other rows ≡ of other world.rows) × (log_of institutions new_logs other ≡ log_of institutions logs other)
        both-others i is other apart =
            let made = m.made ∙ ap (λ (o : Option Institution). after_all (operations_by o m.changes) world.rows) is in (
              ap (of other) made ∙ others_all other i.name (λ f. apart (sym f)) m.changes world.rows m.rising,
              others-next i is other apart,
            )

        -- each C-FIND that was open is open still
        abbrev KeptHere : Option (List ℕ) → Option HeldQuery → Type 0
        KeptHere home query = Kept institutions world.rows rows logs new_logs home query

        told-all : (i : Institution) → q ≡ Some i → log ≡ log_of institutions logs i.name → (home : Option (List ℕ)) (query : Option HeldQuery) → KeptHere home query
        told-all i is same =
            all-kept institutions world.rows rows logs new_logs i.name (both-others i is)
            (subst (λ (l : List Addition). IsTold i.name world.rows rows l (log_of institutions new_logs i.name)) same
            (subst (λ (l : List Addition). IsTold i.name world.rows rows log l) (sym (own-next i is))
            (subst (λ (o : Option Institution). IsToldBy o world.rows rows log next) is m.told_by)))

        no-logs : q ≡ None → new_logs ≡ logs
        no-logs none =
            m.logs_are ∙ ap (λ (o : Option Institution). with_log (with_log logs (owner_place institutions o) []) (owner_place institutions o) next) none

        stranger-kept : q ≡ None → (home : Option (List ℕ)) (query : Option HeldQuery) → KeptHere home query
        stranger-kept none home query begun =
            let rows_is : rows ≡ world.rows = subst (λ (o : Option Institution). IsToldBy o world.rows rows log next) none m.told_by in (
              subst (λ (l : List (List Addition)). IsBegunAt institutions l home query) (sym (no-logs none)) begun,
              (λ i. query_at institutions (rows_is i) (no-logs none i) home query),
            )

        old-free-by : (name : List ℕ) (was is : Option (List ℕ)) (query : Option HeldQuery) → (was ≡ None) ⊎ (is ≡ was)
            → (is_of_institution name is && is_some query) ≡ false → (is_of_institution name was && is_some query) ≡ false
        old-free-by name was is query (inl none) free = ap (λ (o : Option (List ℕ)). is_of_institution name o && is_some query) none
        old-free-by name was is query (inr same) free = ap (λ (o : Option (List ℕ)). is_of_institution name o && is_some query) (sym same) ∙ free

        old-free : (i : Institution) → IsUnsearched (with_value before.slots place new) (Some i) → (is_of_institution i.name old.institution && is_some old.query) ≡ false
        old-free i free =
            old-free-by i.name old.institution new.institution old.query told.stays
            (subst (λ (o : Option HeldQuery). (is_of_institution i.name new.institution && is_some o) ≡ false) told.query
            (free place new (Updates-with_value before.slots place new present).changed))

        free-at : (i : Institution) → IsUnsearched (with_value before.slots place new) (Some i) → (other : ℕ) (slot : Slot) → get before.slots other ≡ Some slot
            → (b : Bool) → (other == place) ≡ b → (is_of_institution i.name slot.institution && is_some slot.query) ≡ false
        free-at i free other slot found_there true same =
            let here : other ≡ place = grind (arith, nat_tests) in
            let both : Some slot ≡ Some old = sym found_there ∙ ap (get before.slots) here ∙ there in
            let is : slot ≡ old = cc in
            rw is (old-free i free)
        free-at i free other slot found_there false same =
            let apart : other ≢ place = λ f. absurd (grind (arith, nat_tests)) in
            free other slot ((Updates-with_value before.slots place new present).others other apart ∙ found_there)

        kept-by : (o : Option Institution) → q ≡ o → IsLog log → (other : ℕ) (slot : Slot) → get before.slots other ≡ Some slot → KeptHere slot.institution slot.query
        kept-by None is l other slot found_there = stranger-kept is slot.institution slot.query
        kept-by (Some i) is (inl same) other slot found_there =
            told-all i is (same ∙ ap (λ (o : Option Institution). log_at logs (owner_place institutions o)) is) slot.institution slot.query
        kept-by (Some i) is (inr free) other slot found_there =
            unsearched-kept institutions world.rows rows logs new_logs i.name (both-others i is) slot.institution slot.query
            (free-at i (subst (λ (o : Option Institution). IsUnsearched (with_value before.slots place new) o) is free) other slot found_there (other == place) refl)

        moved-at : AreAt institutions rows new_logs before.slots before.places.entries world.connections
        moved-at = all-stay institutions world.rows rows logs new_logs before.slots (kept-by q refl m.is) before.places.entries world.connections h.at

        many-by : (o : Option Institution) → q ≡ o → length new_logs ≡ length institutions
        many-by None is = ap length (no-logs is) ∙ h.logged
        many-by (Some i) is =
            let listed = told.listed i is in
            let first = with_log logs (institution_index institutions i.name) [] in
            ap length (m.logs_are ∙ ap (λ (o : Option Institution). with_log (with_log logs (owner_place institutions o) []) (owner_place institutions o) next) is)
            ∙ same-many institutions first i listed (same-many institutions logs i listed h.logged []) next

        pub moved : (held : Connections) → held.slots ≡ before.slots → held.places ≡ before.places → held.newest ≡ before.newest → held.tally ≡ before.tally
            → held.additions.logs.items ≡ new_logs → AreHeld institutions rows held world.connections
        moved held s p w y l = record {
          at = rw (s, p, l) moved-at;
          ordered = rw p h.ordered;
          below = rw (p, w) h.below;
          tallied = rw y h.tallied;
          counted = rw y h.counted;
          logged = ap length l ∙ many-by q refl;
        }

        -- what is left of the C-FIND, where the connection stays open
        homeless-by : (home : Option (List ℕ)) (query : Option HeldQuery) → home ≡ None → IsBegunAt institutions logs home query → query ≡ None
        homeless-by home None none begun = refl
        homeless-by None (Some query) none begun = absurd begun
        homeless-by (Some name) (Some query) none begun = cc

        none-open : new.institution ≡ None → (old.institution ≡ None) ⊎ (new.institution ≡ old.institution) → old.query ≡ None
        none-open none (inl was) = homeless-by old.institution old.query was asks-now.begun
        none-open none (inr same) = homeless-by old.institution old.query (sym same ∙ none) asks-now.begun

        abbrev given : Option OpenQuery
        given = query_by q rows next left

        abbrev kept : Slot
        kept = record new { query = left }

        left-goes-on : t.step.close ≡ false → Stays institutions rows new_logs q new.institution left next
        left-goes-on close =
            let home = (told.held (sym told.stands.step.close ∙ close)).1 in
            goes-on institutions rows new_logs q (held_agreement new.association) new.institution left next home
            (λ none. m.unserved (sym home ∙ none) ∙ told.query ∙ none-open none told.stays)
            (λ i is. (own-next i is, m.named i is)) m.begun

        kept-held : (c : Connection) → IsHeld institutions new c → IsHeld institutions kept (with_query given c)
        kept-held c is = record {
          number = is.number;
          inbox = is.inbox;
          faultless = is.faultless;
          stands = record { association = is.stands.association; not_closed = is.stands.not_closed; slot_institution = is.stands.slot_institution; owned = is.stands.owned };
        }

        -- where the piece closes
        closed-held : length before.places.entries < 2 ^ 63 → Waits → (after : Connections)
            → ((other : ℕ) → other ≢ place → get after.slots other ≡ get before.slots other)
            → after.places.entries ≡ remove_entry (has_number number) before.places.entries → IsOrdered nat_cmp after.places → after.newest ≡ before.newest
            → after.tally.counts.items ≡ retallied_by institutions before.tally.counts.items q (is_some old.institution) false → after.additions.logs.items ≡ new_logs
            → AreHeld institutions rows after (without number world.connections)
        closed-held small waits after u p o w r l =
            let lefts = left-count institutions world.rows before world.connections h waits number old at.connection at.is_in is-held-now in
            let then : Connections = record before { additions = after.additions } in
            left-held rows then after place (moved then refl refl refl refl l) e u p o w
            (λ name. rw r (omega (arith, counts-now small waits None None (sym (no-home q)) name, lefts name)))
            (ap length r ∙ retally-length institutions before.tally.counts.items q (is_some old.institution) false) refl

        -- where it does not
        open-held : length before.places.entries < 2 ^ 63 → Waits → (after : Connections) → t.step.close ≡ false
            → ((other : ℕ) → other ≢ place → get after.slots other ≡ get before.slots other) → get after.slots place ≡ Some kept
            → after.places ≡ before.places → after.newest ≡ before.newest
            → after.tally.counts.items ≡ retallied_by institutions before.tally.counts.items q (is_some old.institution) (is_some new.institution)
            → after.additions.logs.items ≡ new_logs
            → AreHeld institutions rows after (with_connection (with_piece at.connection piece given) world.connections)
        open-held small waits after close u written p w r l =
            let now = told.held (sym told.stands.step.close ∙ close) in
            let c = with_piece at.connection piece given in
            let is_kept = kept-held (with_piece at.connection piece at.connection.query) now.0 in
            let stays = left-goes-on close in
            let asks : Asks institutions rows new_logs kept c = record { begun = stays.1; query = stays.0 } in record {
              at = rw (p, l) (changed institutions rows new_logs number place before.slots after.slots old u there (is-held-now.number ∙ at.same) kept c written at.same
                  is_kept asks before.places.entries world.connections h.ordered moved-at e);
              ordered = rw p h.ordered;
              below = rw (p, w) h.below;
              tallied = λ name. rw r (omega (
                arith,
                counts-now small waits new.institution (held_agreement new.association) now.1 name,
                live-changed institutions name c world.connections at.connection (rw at.same at.is_in),
                ap bit (counted-held waits institutions name old at.connection is-held-now),
                ap bit (counted-held waits institutions name kept c is_kept),
                h.tallied name,
              ));
              counted = ap length r ∙ retally-length institutions before.tally.counts.items q (is_some old.institution) (is_some new.institution) ∙ h.counted;
              logged = ap length l ∙ many-by q refl;
            }

        -- what is held once the slot has answered, and is counted anew
        pub record IsMiddle (mid : Connections) (is : Bool) : Type 0 where
          pub stays : is ≡ (is_some new.institution && not t.step.close)
          pub others : (other : ℕ) → other ≢ place → get mid.slots other ≡ get before.slots other
          pub written : get mid.slots place ≡ Some kept
          pub places : mid.places ≡ before.places
          pub newest : mid.newest ≡ before.newest
          pub tally : mid.tally.counts.items ≡ retallied_by institutions before.tally.counts.items q (is_some old.institution) is
          pub logs_are : mid.additions.logs.items ≡ new_logs

        pub closes : length before.places.entries < 2 ^ 63 → Waits → (mid after : Connections) (is : Bool) → IsMiddle mid is → t.step.close ≡ true
            → Updates mid.slots after.slots place None → after.places.entries ≡ remove_entry (has_number number) mid.places.entries
            → IsOrdered nat_cmp after.places → after.newest ≡ mid.newest → after.tally ≡ mid.tally → after.additions ≡ mid.additions
            → AreHeld institutions rows after (without number world.connections)
        closes small waits mid after is it close u p o w y l =
            let ended : is ≡ false = it.stays ∙ ap (λ (b : Bool). is_some new.institution && not b) close ∙ and-false (is_some new.institution) in
            closed-held small waits after (λ other d. u.others other d ∙ it.others other d)
            (p ∙ ap (λ (ps : BTreeMap ℕ ℕ). remove_entry (has_number number) ps.entries) it.places) o (w ∙ it.newest)
            (ap (λ (y : OpenAssociations). y.counts.items) y ∙ it.tally ∙ ap (retallied_by institutions before.tally.counts.items q (is_some old.institution)) ended)
            (ap (λ (x : Additions). x.logs.items) l ∙ it.logs_are)

        pub stays-open : length before.places.entries < 2 ^ 63 → Waits → (mid : Connections) (is : Bool) → IsMiddle mid is
            → t.step.close ≡ false → AreHeld institutions rows mid (with_connection (with_piece at.connection piece given) world.connections)
        stays-open small waits mid is it close =
            let on : is ≡ is_some new.institution = it.stays ∙ ap (λ (b : Bool). is_some new.institution && not b) close ∙ and-true (is_some new.institution) in
            open-held small waits mid close it.others it.written it.places it.newest
            (it.tally ∙ ap (retallied_by institutions before.tally.counts.items q (is_some old.institution)) on) it.logs_are

        -- a piece was taken, and answered
        pub piece-taken : (agreed : Option Agreement) (was : List Row) → agreed ≡ held_agreement new.association → was ≡ world.rows
            → (after : Connections) (octets : List ℕ) (r : Reply)
            → ((x : Taken) → IsTaken agreed t x → AnswerApplied q (connection_answer q was agreed (query_by q was log new.query) x) was rows [] octets given)
            → (t.step.close ≡ true → AreHeld institutions rows after (without number world.connections))
            → (t.step.close ≡ false → AreHeld institutions rows after (with_connection (with_piece at.connection piece given) world.connections))
            → r ≡ reply.Octets number octets t.step.close
            → Turned institutions (turn institutions world (event.Piece number piece)) r world.rows rows after
        piece-taken agreed was agreed_is was_is after octets r did closed open_on g =
            let c = at.connection in
            let same_query : query_by q was log new.query ≡ c.query = ap (λ (rs : List Row). query_by q rs log new.query) was_is ∙ asked-as-taken log m.is in
            let x = answer_by (owner institutions (c.stream ++ piece)) institutions world c piece in
            let alike = rw (← agreed_is) at told.answer in
            let taken = told.taken in
            let is_given : IsTaken agreed t taken = rw agreed_is told.stands in
            let now = rw (same_query, was_is) at (did taken is_given) in
            let close : x.close ≡ t.step.close = alike.close ∙ close-of q world.rows agreed c.query taken ∙ sym is_given.step.close in
            let left_is : given ≡ x.next.query = now.query ∙ sym alike.query in
            rw at.is_in (record {
              replied = cc (at.same, now.octets, alike.octets);
              rows = rw alike.operations now.rows;
              holds = holds-after institutions rows after c piece x world.connections t.step.close close (λ k. rw at.same (closed k)) (λ k. rw (← left_is) (open_on k));
            })

      -- a piece was taken, and answered in part
      pub piece-part : (agreed : Option Agreement) (was rows : List Row) → agreed ≡ held_agreement new.association → was ≡ world.rows
          → (log : List Addition) → IsLog log → (IsLeft : List Row → Type 0)
          → ((x : Taken) → IsTaken agreed t x → AnswerPartlyApplied q (connection_answer q was agreed (query_by q was log new.query) x) was rows IsLeft)
          → IsPartOf (turn institutions world (event.Piece number piece)).operations world.rows rows IsLeft
      piece-part agreed was rows agreed_is was_is log is_log IsLeft did =
          let same_query : query_by q was log new.query ≡ at.connection.query =
          ap (λ (rs : List Row). query_by q rs log new.query) was_is ∙ asked-as-taken log is_log in
          let alike = rw (← agreed_is) at told.answer in
          let is_given : IsTaken agreed t told.taken = rw agreed_is told.stands in
          rw (at.is_in, alike.operations) (rw (same_query, was_is) at (did told.taken is_given))

-- ---- empty pieces

pub is-empty : (piece : List ℕ) → true ≡ (length piece == 0) → piece ≡ []
is-empty [] h = refl
is-empty (x ∷ piece) h = absurd (grind (arith, nat_tests))

-- an answer that takes memory is to octets on a connection that is held
pub not-quiet : (institutions : List Institution) (rows : List Row) (number : ℕ) (piece : List ℕ) (held : Connections) (cs : List Connection) (place : ℕ)
    → AreHeld institutions rows held cs → lookup (has_number number) held.places.entries ≡ Some place → false ≡ (length piece == 0)
    → (piece ≡ []) ⊎ (connection_in number cs ≡ None) → ⊥
not-quiet institutions rows number piece held cs place h e f (inl none) = false≢true (f ∙ ap (λ (octets : List ℕ). length octets == 0) none)
not-quiet institutions rows number piece held cs place h e f (inr none) =
    let at = (found institutions rows held.additions.logs.items number place held.slots held.places.entries cs h.at e).is_in in cc

-- whatever that is
pub not-always : (number : ℕ) (piece : List ℕ) (held : Connections) (place : ℕ) → lookup (has_number number) held.places.entries ≡ Some place
    → false ≡ (length piece == 0) → (piece ≡ []) ⊎ (has_slot number held ≡ false) → ⊥
not-always number piece held place e f (inl none) = false≢true (f ∙ ap (λ (octets : List ℕ). length octets == 0) none)
not-always number piece held place e f (inr none) = false≢true (sym none ∙ ap is_some e)

-- ---- pulls

module _ (institutions : List Institution) (world : World) (number : ℕ) where
  pub pull-none : (held : Connections) (rows : List Row) → AreHeld institutions world.rows held world.connections → lookup (has_number number) held.places.entries ≡ None
      → rows ≡ world.rows → Turned institutions (turn institutions world (event.Pull number)) reply.Ignored world.rows rows held
  pull-none held rows h e f =
      rw (found-none institutions world.rows held.additions.logs.items number held.slots held.places.entries world.connections h.at e, f)
      (record { replied = refl; rows = refl; holds = h })

  -- a pull changes no row
  pub pull-part : (rows : List Row) (IsLeft : List Row → Type 0) → rows ≡ world.rows → ((r : List Row) → IsLeft r → r ≡ rows)
      → IsPartOf (turn institutions world (event.Pull number)).operations world.rows rows IsLeft
  pull-part rows IsLeft same only = by-connection (connection_in number world.connections)
    where
      by-connection : (o : Option Connection) → IsPartOf (pull_turn world o).operations world.rows rows IsLeft
      by-connection None = record { done = []; later = []; whole = refl; made = same; crash = λ r left. inl (only r left) }
      by-connection (Some c) = record { done = []; later = []; whole = refl; made = same; crash = λ r left. inl (only r left) }

  module _ (before : Connections) (place : ℕ) (old new : Slot) (h : AreHeld institutions world.rows before world.connections)
      (e : lookup (has_number number) before.places.entries ≡ Some place) (there : get before.slots place ≡ Some old)
      (same_slot : new ≡ record old { query = new.query }) where
    abbrev pulled : FoundAt institutions world number before place
    pulled = found-at institutions world number before place h e

    pulled-is : pulled.slot ≡ old
    pulled-is = let both : Some pulled.slot ≡ Some old = sym pulled.there ∙ there in cc

    pulled-old : IsHeld institutions old pulled.connection
    pulled-old = rw (← pulled-is) pulled.held

    pub pulled-asks : Asks institutions world.rows before.additions.logs.items old pulled.connection
    pulled-asks = rw (← pulled-is) pulled.asks

    -- the slot is of the connection with what is left of its query
    pulled-new : (query : Option OpenQuery) → IsHeld institutions new (with_query query pulled.connection)
    pulled-new query = rw same_slot (record {
      number = pulled-old.number;
      inbox = pulled-old.inbox;
      faultless = pulled-old.faultless;
      stands = record {
        association = pulled-old.stands.association;
        not_closed = pulled-old.stands.not_closed;
        slot_institution = pulled-old.stands.slot_institution;
        owned = pulled-old.stands.owned;
      };
    })

    pulled-held : (query : Option OpenQuery) → query_at institutions world.rows before.additions.logs.items old.institution new.query ≡ query
        → IsBegunAt institutions before.additions.logs.items old.institution new.query
        → AreHeld institutions world.rows (record before { slots = with_value before.slots place new })
        (with_connection (with_query query pulled.connection) world.connections)
    pulled-held query asked begun =
        let logs = before.additions.logs.items in
        let c = with_query query pulled.connection in
        let present : ContainsKey before.slots place = rw there refl in
        let updates = Updates-with_value before.slots place new present in
        let home : new.institution ≡ old.institution = ap (λ (s : Slot). s.institution) same_slot in
        let asks : Asks institutions world.rows logs new c = record {
          begun = subst (λ (o : Option (List ℕ)). IsBegunAt institutions logs o new.query) (sym home) begun;
          query = ap (λ (o : Option (List ℕ)). query_at institutions world.rows logs o new.query) home ∙ asked;
        } in record {
          at = changed institutions world.rows logs number place before.slots (with_value before.slots place new) old updates.others there (pulled-old.number ∙ pulled.same) new c
              updates.changed pulled.same (pulled-new query) asks before.places.entries world.connections h.ordered h.at e;
          ordered = h.ordered;
          below = h.below;
          tallied = λ name.
              let was = live-changed institutions name c world.connections pulled.connection (rw pulled.same pulled.is_in) in
              h.tallied name ∙ omega (arith, was);
          counted = h.counted;
          logged = h.logged;
        }

    pub pull-answered : (rows : List Row) → rows ≡ world.rows → (p : Page)
        → p ≡ next_page (query_at institutions world.rows before.additions.logs.items old.institution old.query)
        → query_at institutions world.rows before.additions.logs.items old.institution new.query ≡ p.query
        → IsBegunAt institutions before.additions.logs.items old.institution new.query → (r : Reply) → r ≡ reply.Octets number p.octets false
        → Turned institutions (turn institutions world (event.Pull number)) r world.rows rows
        (record before { slots = with_value before.slots place new })
    pull-answered rows f p page left begun r is =
        let c = pulled.connection in
        let same : p ≡ next_page c.query = page ∙ ap next_page pulled-asks.query in
        rw (pulled.is_in, f) (record {
          replied = is ∙ cc (same, pulled.same);
          rows = refl;
          holds = rw (ap (λ (x : Page). x.query) (sym same)) (pulled-held p.query left begun);
        })

-- a slot is at the place of a number
pub vacant : (institutions : List Institution) (rows : List Row) (number place : ℕ) (held : Connections) (cs : List Connection) → AreHeld institutions rows held cs
    → lookup (has_number number) held.places.entries ≡ Some place → get held.slots place ≡ None → ⊥
vacant institutions rows number place held cs h e n =
    let at = found institutions rows held.additions.logs.items number place held.slots held.places.entries cs h.at e in
    let both : Some at.slot ≡ None = sym at.there ∙ n in cc

-- whether a query is open, by the slot
pub pending-none : (institutions : List Institution) (rows : List Row) (number : ℕ) (held : Connections) (cs : List Connection) → AreHeld institutions rows held cs
    → lookup (has_number number) held.places.entries ≡ None → false ≡ is_pending number cs
pending-none institutions rows number held cs h e = rw (found-none institutions rows held.additions.logs.items number held.slots held.places.entries cs h.at e) refl

some-query : (institutions : List Institution) (rows : List Row) (log_of_each : List (List Addition)) (home : Option (List ℕ)) (o : Option HeldQuery)
    → is_some o ≡ is_some (query_at institutions rows log_of_each home o)
some-query institutions rows log_of_each None None = refl
some-query institutions rows log_of_each None (Some query) = refl
some-query institutions rows log_of_each (Some home) None = refl
some-query institutions rows log_of_each (Some home) (Some query) = refl

pub pending-some : (institutions : List Institution) (rows : List Row) (number place : ℕ) (held : Connections) (slot : Slot) (cs : List Connection)
    → AreHeld institutions rows held cs
    → lookup (has_number number) held.places.entries ≡ Some place → get held.slots place ≡ Some slot → is_some slot.query ≡ is_pending number cs
pending-some institutions rows number place held slot cs h e there =
    let logs = held.additions.logs.items in
    let at = found institutions rows logs number place held.slots held.places.entries cs h.at e in
    let both : Some at.slot ≡ Some slot = sym at.there ∙ there in
    let is : at.slot ≡ slot = cc in
    let same : query_at institutions rows logs slot.institution slot.query ≡ at.connection.query = rw is at at.asks.query in
    rw at.is_in (some-query institutions rows logs slot.institution slot.query ∙ ap is_some same)

no-query : (o : Option HeldQuery) → is_some o ≡ false → o ≡ None
no-query None e = refl
no-query (Some query) e = cc

pub not-pending : (institutions : List Institution) (rows : List Row) (number place : ℕ) (held : Connections) (slot : Slot) (cs : List Connection) → AreHeld institutions rows held cs
    → lookup (has_number number) held.places.entries ≡ Some place → get held.slots place ≡ Some slot → is_pending number cs ≡ false → slot.query ≡ None
not-pending institutions rows number place held slot cs h e there none =
    no-query slot.query (pending-some institutions rows number place held slot cs h e there ∙ none)

-- ---- what is open in slots, whatever they stand for

pub search-none : (number : ℕ) (held : Connections) → lookup (has_number number) held.places.entries ≡ None → has_search number held ≡ false
search-none number held e = ap (λ (o : Option ℕ). has_query_at o held.slots) e

pub search-at : (number place : ℕ) (held : Connections) (o : Option Slot) → lookup (has_number number) held.places.entries ≡ Some place
    → get held.slots place ≡ o → has_search number held ≡ has_query o
search-at number place held o e there = ap (λ (o : Option ℕ). has_query_at o held.slots) e ∙ ap has_query there

pub no-search : (number place : ℕ) (held : Connections) (slot : Slot) → lookup (has_number number) held.places.entries ≡ Some place
    → get held.slots place ≡ Some slot → has_search number held ≡ false → slot.query ≡ None
no-search number place held slot e there none = no-query slot.query (sym (search-at number place held (Some slot) e there) ∙ none)
