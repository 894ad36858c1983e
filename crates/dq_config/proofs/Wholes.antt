-- An institution that is read from its seven keys.
use Rattle.std.specs.Option.{ok_or}
use Rattle.std.proofs.Common.{◌≡◌, ℕ, List, Option, Some, None, Ok, codes, refl}
use Rattle.toml.specs.Data.{Data, Items, Members}
use Rattle.dq_config.specs.declared.config.Route.{Route}
use Rattle.dq_config.specs.Document.{table_of, string_at, array_at, limit_at, each_item, route_in, institution_in}

pub institution_read : (value : Data) (keys : Members) (items : Items) (name : List ℕ) (routes : List Route) (studies images entries steps associations : ℕ)
    → table_of 7 value ≡ Some keys → string_at (codes "name") keys ≡ Some name → array_at (codes "routes") keys ≡ Some items → each_item route_in items ≡ Some routes
    → limit_at (codes "studies") keys ≡ Some studies → limit_at (codes "images") keys ≡ Some images → limit_at (codes "entries") keys ≡ Some entries
    → limit_at (codes "steps") keys ≡ Some steps → limit_at (codes "associations") keys ≡ Some associations
    → institution_in value ≡ Some (record {
      name = name;
      routes = routes;
      studies = studies;
      images = images;
      entries = entries;
      steps = steps;
      associations = associations;
    })
institution_read value keys items name routes studies images entries steps associations e1 e2 e3 e4 e5 e6 e7 e8 e9 =
    rw (e1, e2, e3, e4, e5, e6, e7, e8, e9) refl

pub ok_or_is : {X E : Type 0} (o : Option X) (e : E) (x : X) → ok_or o e ≡ Ok x → o ≡ Some x
ok_or_is (Some y) e x h = cc
ok_or_is None e x h = cc
