use Rattle.std.proofs.Common.{refl, arith}
use Rattle.std.proofs.lemmas.Result.{err_from_is_err_and}
use Rattle.sheet.specs.Books.{model_of}
use Rattle.sheet.specs.Causes.{Told, told}
use Rattle.sheet.proofs.Chains.{searchable}
use Rattle.sheet.proofs.Witnessing.{witnessed_stopped, witnessed_shown, shown_unless}
use Rattle.sheet.proofs.sheet.Sheet.path.Goals as goal

pub returns-in_err-fitting : goal.returns-in_err-fitting
returns-in_err-fitting g c =
    let p = err_from_is_err_and c.from_residual.result c.from_residual.ensures.1 in
    rw (p.1, p.2) (record { answer = witnessed_stopped _ _ _ _ _ _ _ _ _ _ _ c.in_err-fitting.ensures.cause refl; work = λ _. refl; waiting = λ _. refl })

pub shortest-requires : goal.shortest-requires
shortest-requires g c =
    let free = c.in_ok-fitting.ensures.cause in
    let language = c.args.language.now in
    let tells : Told = told (g.L.Alphabet.known language) (g.L.UntilLanguage.symbols language) (g.L.UntilLanguage.rules language) in
    let may = searchable (model_of c.args.self.now) tells _ _ _ _ _ _ _ free in
    record {
      state = rw c.of-guarded.ensures may.state;
      work = rw (c.of-guarded.ensures, c.in_ok-fitting.ensures.same) (omega (arith, c.satisfying-some.auto.work, may.room));
      waiting = may.memory;
      marks = c.satisfying-some.ensures.derived;
    }

pub returns : goal.returns
returns g c =
    let free = c.in_ok-fitting.ensures.cause in
    let language = c.args.language.now in
    let tells : Told = told (g.L.Alphabet.known language) (g.L.UntilLanguage.symbols language) (g.L.UntilLanguage.rules language) in
    let may = searchable (model_of c.args.self.now) tells _ _ _ _ _ _ _ free in
    let laws = g.met.L.UntilLanguage in
    record {
      answer = witnessed_shown _ tells _ _ _ _ _ _ _ _ _ _ c.in_ok-fitting.ensures.marks free
          (λ w. laws.derived language w may.symbols may.rules) (λ w. laws.only_derived language w may.symbols may.rules) c.shortest.result (rw (c.of-guarded.ensures, c.in_ok-fitting.ensures.same) at c.shortest.ensures);
      work = shown_unless _ _ _ _ _ _ _ _ c.shortest.result _ c.shortest.ensures;
      waiting = shown_unless _ _ _ _ _ _ _ _ c.shortest.result _ c.shortest.ensures;
    }
