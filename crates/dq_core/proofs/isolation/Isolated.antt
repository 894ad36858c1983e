-- All events: the shared server beside the server of one institution alone.
use Rattle.std.proofs.Common.{◌≡◌, ℕ, Bool, true, false, List, [], ◌∷◌, ◌++◌, Option, refl, sym, ap, ◌∙◌}
use Rattle.std.specs.Prelude.{filter}
use Rattle.std.specs.Str.{bytes_eq}
use Rattle.dq_core.proofs.isolation.Vocabulary.{Institution, Event, Limits, World, turn, world_after_turn, replies_from, world_from, AloneWorld, alone_turn, alone_after_turn, alone_replies_from, alone_world_from, is_on, replies_at, newest_after}
use Rattle.dq_tables.specs.Rows.{of, after_all, edited_all, IsRising}
use Rattle.dq_core.proofs.isolation.Streams.{AddsInputs}
use Rattle.dq_core.proofs.isolation.Sound.{Sound, sound-next}
use Rattle.dq_core.proofs.isolation.Isolating.{Lenses, IsMine, Configured, IsBeside, alike}
use Rattle.dq_core.proofs.isolation.Others.{other, rising-all, own-rows, other-rows}

-- an institution's events
abbrev pub is_mine : List ℕ → (ℕ → Bool) → Event → Bool
is_mine name mine e = is_on mine (λ inst. bytes_eq inst name) e

-- the two servers, and the rest of the history
pub record Are (institutions : List Institution) (name : List ℕ) (mine : ℕ → Bool) (newest : Option ℕ) (world : World) (alone : AloneWorld)
    (rest : List Event) : Type 0 where
  pub beside : IsBeside name mine world alone
  pub rising : IsRising world.rows
  pub sound : Sound institutions (IsMine name mine) newest world.connections rest

-- The replies at the institution's events among the first of the rest, and where the two servers are after these.
pub record After (institutions : List Institution) (name : List ℕ) (limits : Limits) (mine : ℕ → Bool) (world : World) (alone : AloneWorld)
    (done rest : List Event) : Type 0 where
  pub replied : replies_at (is_mine name mine) done (replies_from institutions world done)
      ≡ alone_replies_from limits alone (filter (is_mine name mine) done)
  pub newest : Option ℕ
  pub are : Are institutions name mine newest (world_from institutions world done) (alone_world_from limits alone (filter (is_mine name mine) done)) rest

module _ (adds : AddsInputs) (lenses : Lenses) (institutions : List Institution) (name : List ℕ) (limits : Limits) (mine : ℕ → Bool)
    (configured : Configured institutions name limits) where
  are-own : (newest : Option ℕ) (world : World) (alone : AloneWorld) (e : Event) (rest : List Event)
      → Are institutions name mine newest world alone (e ∷ rest) → is_mine name mine e ≡ true
      → Are institutions name mine (newest_after newest (e ∷ [])) (world_after_turn world (turn institutions world e))
      (alone_after_turn alone (alone_turn limits alone e)) rest
  are-own newest world alone e rest a m =
      let l = alike adds institutions name limits mine world alone configured a.beside newest e rest a.sound m in
      let changes = (alone_turn limits alone e).changes in record {
        beside = record {
          connections = l.connections;
          records = ap (edited_all changes) a.beside.records ∙ sym (own-rows lenses name changes world.rows)
              ∙ ap (λ os. of name (after_all os world.rows)) (sym l.operations);
        };
        rising = rising-all lenses (turn institutions world e).operations world.rows a.rising;
        sound = sound-next institutions (IsMine name mine) newest world e rest a.sound;
      }

  are-other : (newest : Option ℕ) (world : World) (alone : AloneWorld) (e : Event) (rest : List Event)
      → Are institutions name mine newest world alone (e ∷ rest) → is_mine name mine e ≡ false
      → Are institutions name mine (newest_after newest (e ∷ [])) (world_after_turn world (turn institutions world e)) alone rest
  are-other newest world alone e rest a m =
      let o = other adds institutions name mine world newest e rest a.sound m in
      let operations = (turn institutions world e).operations in record {
        beside = record {
          connections = a.beside.connections ∙ sym o.connections;
          records = a.beside.records ∙ sym (other-rows lenses name operations world.rows a.rising o.operations);
        };
        rising = rising-all lenses operations world.rows a.rising;
        sound = sound-next institutions (IsMine name mine) newest world e rest a.sound;
      }

  after-at : (newest : Option ℕ) (world : World) (alone : AloneWorld) (e : Event) (done rest : List Event)
      → Are institutions name mine newest world alone (e ∷ (done ++ rest))
      → ((newest : Option ℕ) (world : World) (alone : AloneWorld) → Are institutions name mine newest world alone (done ++ rest)
      → After institutions name limits mine world alone done rest)
      → (b : Bool) → is_mine name mine e ≡ b → After institutions name limits mine world alone (e ∷ done) rest
  after-at newest world alone e done rest a later true m =
      let l = alike adds institutions name limits mine world alone configured a.beside newest e (done ++ rest) a.sound m in
      let next = later (newest_after newest (e ∷ [])) (world_after_turn world (turn institutions world e))
      (alone_after_turn alone (alone_turn limits alone e)) (are-own newest world alone e (done ++ rest) a m) in
      record { replied = rw (m, l.reply, next.replied) refl; newest = next.newest; are = rw m next.are }
  after-at newest world alone e done rest a later false m =
      let next = later (newest_after newest (e ∷ [])) (world_after_turn world (turn institutions world e)) alone
      (are-other newest world alone e (done ++ rest) a m) in
      record { replied = rw m next.replied; newest = next.newest; are = rw m next.are }

  pub are-after : (done rest : List Event) (newest : Option ℕ) (world : World) (alone : AloneWorld)
      → Are institutions name mine newest world alone (done ++ rest) → After institutions name limits mine world alone done rest
  are-after [] rest newest world alone a = record { replied = refl; newest = newest; are = a }
  are-after (e ∷ done) rest newest world alone a =
      after-at newest world alone e done rest a (are-after done rest) (is_mine name mine e) refl
