-- The code's fields of a plan, and the plan that they are.
-- Assumes nothing.
use Rattle.std.specs.Prelude.{◌≡◌, refl, true, false, List, ℕ, Option, Some, None, is_some, replicate}
use Rattle.placing.specs.declared.units.Place.{Place}
use Rattle.placing.specs.declared.units.Side.TheVariants.{Free}
use Rattle.placing.specs.declared.way.Way.TheVariants.{Usual}
use Rattle.placing.specs.rules.Units.{most_sites}
use Rattle.plan.specs.declared.name.Name.{Name}
use Rattle.plan.specs.declared.plan.Placement.{Placement}
use Rattle.plan.specs.declared.plan.Plan.TheInside.{Inside}
use Rattle.plan.specs.calls.Plan.{PlanRecord}

-- While a plan is not placed, its way is the usual one, its side is free and its corners are 0.
abbrev pub placement_held : Option Placement → Placement
placement_held (Some placement) = placement
placement_held None = record { way = Usual; side = Free; corners = replicate most_sites 0 }

-- The plan of these fields.
abbrev pub plan_of : Inside → PlanRecord
plan_of fields =
    record {
      count = fields.count;
      names = fields.names;
      places = fields.places;
      placed = is_some fields.placement;
      way = (placement_held fields.placement).way;
      side = (placement_held fields.placement).side;
      corners = (placement_held fields.placement).corners;
    }

-- The fields of a plan.
abbrev pub fields_in : PlanRecord → Inside
fields_in plan =
    record {
      count = plan.count;
      names = plan.names;
      places = plan.places;
      placement = elim plan.placed [ true ↦ Some (record { way = plan.way; side = plan.side; corners = plan.corners }) | false ↦ None ];
    }

-- Those of the plan of some fields are these.
pub fields-back : (fields : Inside) → fields_in (plan_of fields) ≡ fields
fields-back fields = by_placement fields.count fields.names fields.places fields.placement
  where
    by_placement : (count : ℕ) (names : List Name) (places : List Place) (at : Option Placement)
        → ◌≡◌ {A = Inside} (fields_in (plan_of (record { count = count; names = names; places = places; placement = at })))
        (record { count = count; names = names; places = places; placement = at })
    by_placement count names places None = refl
    by_placement count names places (Some at) = refl
