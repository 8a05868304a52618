-- The question that stands where none is asked.
use Rattle.model.specs.Sets.{nothing}
use Rattle.sheet.specs.declared.question.Question.{Question}
use Rattle.sheet.specs.declared.question.Form.TheVariants.{Proposition}

abbrev pub unasked : Question
unasked = record { form = Proposition 0; marks = nothing }
