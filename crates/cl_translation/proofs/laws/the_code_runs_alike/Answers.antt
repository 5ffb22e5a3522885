use Rattle.cl_translation.proofs.Runs.{runs_alike}
use Rattle.cl_translation.proofs.laws.the_code_runs_alike.Goals as goal

pub returns : goal.returns
returns c = record {
  runs = runs_alike c.agreeing_meanings_run_alike.ensures.alike c.the_code_demands_the_same.ensures.demands c.each_value_is_within_its_type.ensures.sources c.each_value_is_within_its_type.ensures.histories
      c.each_act_is_an_instance.ensures.starts c.each_request_is_an_instance.ensures.starts c.each_start_fits_its_program.ensures.starts;
}
