use Rattle.std.proofs.Common.{◌≡◌, ℕ, ◌+◌, ◌-◌, length}
use Rattle.model.specs.declared.number_set.NumberSet.{NumberSet}
use Rattle.model.specs.Sets.{Has}
use Rattle.pile.specs.Items.{items}
use Rattle.triples.specs.Triples.{size}
use Rattle.positions.specs.Pairs.{Holds}
use Rattle.positions.specs.Searches.{Ready, Sound}
use Rattle.positions.specs.Looking.{table_of}
use Rattle.release.proofs.search.doomed.Given as goal

abbrev pub invariant-loop-top : goal.invariant-loop-top
invariant-loop-top g l =
    let s = l.initial.search.setting in
    record {
      same : l.search.setting ≡ s;
      ready : Ready s.watched.model.now (table_of s) (Has s.freeing) l.search.found.rows l.search.pile;
      sound : (k : NumberSet) → Sound s.watched.model.now (table_of s) (Has s.freeing) (Has k) l.initial.search.found.rows → Sound s.watched.model.now (table_of s) (Has s.freeing) (Has k) l.search.found.rows;
      keeps : (p : ℕ × ℕ) → Holds l.initial.search.found.rows p → Holds l.search.found.rows p;
    }

abbrev pub decreases-loop-top : goal.decreases-loop-top
decreases-loop-top g l = (1024 - size l.search.found.rows 32) + length (items l.search.pile)
