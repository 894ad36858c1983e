-- What a message that is held stands for, by how its data set is held.
use Rattle.std.proofs.Common.{◌≡◌, ◌≤◌, ℕ, Bool, true, false, ◌||◌, ◌&&◌, not, List, [], length, Some, None, Ok, Err, inl, inr, refl, sym, ap, subst, ◌∙◌, arith, if◌then◌else◌}
use Rattle.std.specs.Prelude.{nat_lt}
use Rattle.std.specs.Result.{result_ok}
use Rattle.std.proofs.lemmas.Bool.{le-ltb}
use Rattle.dq_list.specs.Readers.{only_if}
use Rattle.dq_list.proofs.Readers.{provided_some}
use Rattle.dq_dataset.specs.declared.fault.ReadFault.{ReadFault}
use Rattle.dq_dataset.specs.declared.header.Syntax.{Syntax}
use Rattle.dq_dataset.specs.declared.sieve.Sifted.{Sifted as Answer}
use Rattle.dq_dataset.specs.declared.sieve.Sifted.TheVariants.{Kept, Large, Fault}
use Rattle.dq_dataset.specs.Tree.{ElementList}
use Rattle.dq_dataset.specs.Editing.{cut_out}
use Rattle.dq_dataset.specs.Faults.{IsFaulty}
use Rattle.dq_dataset.specs.Grammar.{IsSpelled}
use Rattle.dq_dataset.specs.DataSetReader.{data_set_read}
use Rattle.dq_dataset.specs.Sieve.{IsSifted, has_other}
use Rattle.dq_dataset.proofs.Large.{no_fault, sifted_kept, sifted_large, sifted_small}
use Rattle.dq_dimse.specs.declared.command.Body.{Body}
use Rattle.dq_dimse.specs.declared.command.Body.TheVariants.{Octets, Sifted}
use Rattle.dq_dimse.specs.declared.command.Command.{Command}
use Rattle.dq_dimse.specs.declared.command.Message.{Message as HeldMessage}
use Rattle.dq_vr.specs.StudyRoot.{kept_attributes}
use Rattle.dq_dimse.specs.Holding.{BodyRefines, Refines, is_sifted, is_stored}
use Rattle.dq_dimse.specs.Messages.{store_limit, other_limit}
use Rattle.dq_dimse.specs.Received.{Message}
use Rattle.dq_dimse.specs.Receiving.{is_over}
use Rattle.dq_config.specs.Limits.{Limits}
use Rattle.dq_tables.specs.Rows.{Record}
use Rattle.dq_store.specs.CStore.{Instance, instance_in, names_instance, keeps_too_much, store_outcome}
use Rattle.dq_store.specs.Views.{instance_stored}
use Rattle.dq_store.proofs.Outcomes.{unread, too_much, not_provided, unnamed, handed_on}
use Rattle.dq_store.proofs.Sieved.{named_kept, kept_decides}

not_false : (b : Bool) → not b ≡ false → b ≡ true
not_false true e = refl
not_false false e = absurd cc

not_true : (a b : Bool) → true ≡ (a && not b) → b ≡ false
not_true true true e = absurd cc
not_true true false e = refl
not_true false b e = absurd cc

limit_most : (stored : Bool) → (if stored then store_limit else other_limit) ≤ store_limit
limit_most true = omega arith
limit_most false = omega arith

module _ (syntax : Syntax) (held : HeldMessage) (m : Message) (h : Refines syntax held m) where
  -- octets of a C-STORE that are held are none, since it passed its limit
  pub octets_over : (octets : List ℕ) → is_stored held.command ≡ true → held.body ≡ Octets octets → is_over store_limit m ≡ true
  octets_over octets stored is =
      let sent : is_stored m.command ≡ true = ap is_stored (sym h.command) ∙ stored in
      let here : not m.over ≡ false = ap (λ (b : Bool). b && not m.over) (sym sent) ∙ sym h.sifted ∙ ap is_sifted is in
      ap (λ (b : Bool). b || nat_lt store_limit (length m.octets)) (not_false m.over here)

  module _ (answer : Answer) (is : held.body ≡ Sifted answer) where
    not_past : m.over ≡ false
    not_past = not_true (is_stored m.command) m.over (sym (ap is_sifted is) ∙ h.sifted)

    pub short : length m.octets ≤ store_limit
    short = (let most = limit_most (is_stored m.command) in let less = h.short not_past in omega (arith, most, less))

    pub not_over : is_over store_limit m ≡ false
    not_over =
        ap (λ (b : Bool). b || nat_lt store_limit (length m.octets)) not_past ∙ le-ltb store_limit (length m.octets) short

    pub is_answer : IsSifted syntax kept_attributes m.octets answer
    is_answer = subst (λ (b : Body). BodyRefines syntax b m.octets) is h.body

faulty_in : (syntax : Syntax) (octets : List ℕ) (fault : ReadFault) → IsSifted syntax kept_attributes octets (Fault fault)
    → (first : ReadFault) × IsFaulty syntax octets first
faulty_in syntax octets fault (inl x) = absurd (no_fault (cut_out kept_attributes x.0) (has_other kept_attributes x.0) fault x.2)
faulty_in syntax octets fault (inr x) = (x.0, x.1)

-- a data set of which too much would be kept
large_in : (syntax : Syntax) (octets : List ℕ) → IsSifted syntax kept_attributes octets Large
    → (d : ElementList) × IsSpelled syntax octets d × (keeps_too_much d ≡ true)
large_in syntax octets (inl x) = (x.0, x.1, sifted_large (cut_out kept_attributes x.0) (has_other kept_attributes x.0) x.2)
large_in syntax octets (inr x) = (let no = x.2 in absurd cc)

-- a data set of which this was kept
pub record WasKept (syntax : Syntax) (octets : List ℕ) (kept : ElementList) (other : Bool) : Type 0 where
  pub whole : ElementList
  pub spelled : IsSpelled syntax octets whole
  pub kept_is : kept ≡ cut_out kept_attributes whole
  pub small : keeps_too_much whole ≡ false
  pub other_is : other ≡ has_other kept_attributes whole

kept_in : (syntax : Syntax) (octets : List ℕ) (kept : ElementList) (other : Bool) → IsSifted syntax kept_attributes octets (Kept kept other)
    → WasKept syntax octets kept other
kept_in syntax octets kept other (inl x) =
    let cut = cut_out kept_attributes x.0 in
    let same = sifted_kept kept cut other (has_other kept_attributes x.0) x.2 in
    record {
      whole = x.0;
      spelled = x.1;
      kept_is = same.0;
      small = sifted_small kept cut other (has_other kept_attributes x.0) x.2;
      other_is = same.1;
    }
kept_in syntax octets kept other (inr x) = (let no = x.2 in absurd cc)

module _ (limits : Limits) (records : List Record) (syntax : Syntax) (held : HeldMessage) (m : Message) (h : Refines syntax held m) where
  pub stored_unread : (answer : Answer) (fault : ReadFault) → held.body ≡ Sifted answer → answer ≡ Fault fault
      → ((first : ReadFault) → IsFaulty syntax m.octets first → data_set_read syntax m.octets ≡ Err first)
      → store_outcome limits records m syntax ≡ (0xC000, [])
  stored_unread answer fault is e law =
      let faulty = faulty_in syntax m.octets fault (subst (IsSifted syntax kept_attributes m.octets) e (is_answer syntax held m h answer is)) in
      unread limits records m syntax (not_over syntax held m h answer is) (ap result_ok (law faulty.0 faulty.1))

  pub stored_large : (answer : Answer) → held.body ≡ Sifted answer → answer ≡ Large
      → ((d : ElementList) → IsSpelled syntax m.octets d → data_set_read syntax m.octets ≡ Ok d)
      → store_outcome limits records m syntax ≡ (0xA700, [])
  stored_large answer is e law =
      let large = large_in syntax m.octets (subst (IsSifted syntax kept_attributes m.octets) e (is_answer syntax held m h answer is)) in
      too_much limits records m syntax large.0 (not_over syntax held m h answer is) (law large.0 large.1) large.2

  pub kept_of_it : (answer : Answer) (kept : ElementList) (other : Bool) → held.body ≡ Sifted answer → answer ≡ Kept kept other
      → WasKept syntax m.octets kept other
  kept_of_it answer kept other is e =
      kept_in syntax m.octets kept other (subst (IsSifted syntax kept_attributes m.octets) e (is_answer syntax held m h answer is))

  module _ (answer : Answer) (kept : ElementList) (other : Bool) (is : held.body ≡ Sifted answer) (e : answer ≡ Kept kept other)
      (law : (d : ElementList) → IsSpelled syntax m.octets d → data_set_read syntax m.octets ≡ Ok d) where
    named_is : let w = kept_of_it answer kept other is e in names_instance held.command kept ≡ names_instance m.command w.whole
    named_is =
        let w = kept_of_it answer kept other is e in
        ap (names_instance held.command) w.kept_is ∙ named_kept held.command w.whole ∙ ap (λ (c : Command). names_instance c w.whole) h.command

    pub stored_unnamed : None ≡ only_if (names_instance held.command kept) (instance_in kept) → store_outcome limits records m syntax ≡ (0xA900, [])
    stored_unnamed none =
        let w = kept_of_it answer kept other is e in
        unnamed limits records m syntax w.whole (not_over syntax held m h answer is) (law w.whole w.spelled) w.small
        (sym named_is ∙ not_provided (names_instance held.command kept) (instance_in kept) none)

    pub stored_kept : (sent : Instance) → Some sent ≡ only_if (names_instance held.command kept) (instance_in kept)
        → instance_stored limits records other sent ≡ store_outcome limits records m syntax
    stored_kept sent some =
        let w = kept_of_it answer kept other is e in
        let named = provided_some (names_instance held.command kept) (instance_in kept) sent (sym some) in
        ap (instance_stored limits records other) (sym named.1)
        ∙ ap (λ (k : ElementList). instance_stored limits records other (instance_in k)) w.kept_is
        ∙ ap (λ (b : Bool). instance_stored limits records b (instance_in (cut_out kept_attributes w.whole))) w.other_is
        ∙ sym (kept_decides limits records w.whole)
        ∙ sym (handed_on limits records m syntax w.whole (not_over syntax held m h answer is) (law w.whole w.spelled) w.small
        (sym named_is ∙ named.0))
