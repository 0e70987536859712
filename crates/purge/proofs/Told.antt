-- Memory that holds a run, surveyed: the run is as it was, the links are told, and the types that stay are those that the rules keep.
use mathlib.Core.Path.{◌≡◌, sym, ◌∙◌}
use mathlib.Core.Bool.{Bool, true, false, not}
use mathlib.Core.List.{List}
use Prim.Native.Nat.{ℕ, ◌≤◌, ◌<◌}
use native.Mathlib.Omega.{arith}
use lib.ListN.{length, get_or, length-map}
use Rattle.graph.specs.Below.{gather, only}
use Rattle.graph.proofs.Below.{gather_ext}
use Rattle.rules.specs.Job.{Bytes}
use Rattle.rules.specs.Types.{rows_of}
use Rattle.rules.specs.Purge.{Run, links_of, obsolete, some_obsolete}
use Rattle.types.specs.State.{blank}
use Rattle.types.proofs.State.{kinds-at}
use Rattle.links.specs.Marks.{LinksFound, TellsLinks}
use Rattle.links.proofs.Told.{measures_still, told, counted}
use Rattle.purge.specs.Stay.{obsolete_in, staying, Stays}
use Rattle.purge.specs.Holds.{Holds}
use Rattle.purge.specs.declared.state.Held.{Held}
use Rattle.purge.specs.declared.stay.Stay.{Stay}
use Rattle.purge.proofs.stay.Places.{some_go, none-goes}

module _ {m : ℕ} {ws : List ℕ} {run : Run} {states : Bytes} {area : List ℕ} {held : Held}
    (holds : Holds m ws run states area held) (few : held.state.types ≤ 128) where
  pub rows-count : length (rows_of run.current) ≡ held.state.types
  rows-count = length-map run.current (λ t. t.row) ∙ sym holds.types_are

  rows_few : length (rows_of run.current) ≤ 128
  rows_few = omega (arith, rows-count)

  -- Only mirror cells of current types change.
  module _ {e : ℕ} {area' : List ℕ} (found : LinksFound held.state.types e area area') where
    of_rows : LinksFound (length (rows_of run.current)) e area area'
    of_rows = rw rows-count found

    pub survey_holds : Holds m ws run states area' held
    survey_holds = record {
      narrow = holds.narrow;
      wide = holds.wide;
      types_are = holds.types_are;
      made_are = holds.made_are;
      rounds_are = holds.rounds_are;
      kinds_are = holds.kinds_are;
      states_are = holds.states_are;
      distances_are = measures_still ws e (rows_of run.current) rows_few holds.distances_are of_rows;
      rest_zero = λ p other. let g = holds.types_are in
          found.kept p (λ i j h l. other j i (omega arith) (omega arith) (omega arith)) ∙ holds.rest_zero p other;
    }

    pub survey_tells : TellsLinks ws e (rows_of run.current) area'
    survey_tells = told ws e (rows_of run.current) rows_few holds.distances_are of_rows

  -- Obsolete as memory tells it is obsolete by the rules.
  module _ {e : ℕ} (tells : TellsLinks ws e (rows_of run.current) area) where
    abbrev goes : ℕ → Bool
    goes = obsolete run.current (links_of ws e run)

    told-obsolete : (i : ℕ) → i < held.state.types → obsolete_in area held.state.types (get_or held.kinds i blank) i ≡ goes i
    told-obsolete i h =
        let links = counted ws e (rows_of run.current) rows_few tells i (rw rows-count h) in
        rw (holds.kinds_are, kinds-at run.current i (omega arith), ← rows-count, links)

    pub staying-is : staying area held.kinds held.state.types ≡ gather (length run.current) (λ i. only (not (goes i)) i)
    unfolding staying
    staying-is = rw (← holds.types_are) (gather_ext held.state.types _ _ (λ i h. rw (told-obsolete i h)))

    -- Where fewer stay than there are types, some are obsolete; else none is.
    module _ {stay : Stay} (stays : Stays (staying area held.kinds held.state.types) stay) where
      pub fewer-stay : stay.count < held.state.types → some_obsolete (links_of ws e run) run ≡ true
      fewer-stay h = some_go (length run.current) goes (rw (← staying-is, ← stays.count_is, ← holds.types_are) h)

      pub all_stay : held.state.types ≤ stay.count → some_obsolete (links_of ws e run) run ≡ false
      all_stay h = none-goes (length run.current) goes (rw (← staying-is, ← stays.count_is, ← holds.types_are) h)
