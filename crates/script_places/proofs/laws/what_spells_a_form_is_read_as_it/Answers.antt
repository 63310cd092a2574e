use Rattle.script_places.proofs.FormWords.{form_sound, form_complete, form_refused, form_refuses}
use Rattle.script_places.proofs.laws.what_spells_a_form_is_read_as_it.Goals as goal

pub returns : goal.returns
returns c = λ _. record {
  read = λ slots form command ws few right e. form_sound slots form command ws few right e;
  spelled = λ slots form command ws few right s. form_complete slots form command ws few right s;
  refused = λ slots form cause ws few right e. form_refused slots form cause ws few right e;
  wrong = λ slots form cause ws few right r. form_refuses slots form cause ws few right r;
}
