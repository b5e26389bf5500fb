use Rattle.pages.proofs.ByIndex.{sound_by_index, log_pages_by_index, log_put_by_index, one_log_put, first_bad_by_index, image_faults_in_order, image_pages_by_index}
use Rattle.pages.proofs.Loads.{loads_end_alike}
use Rattle.pages.proofs.pages_by_index.Goals as goal

pub returns : goal.returns
returns c = record {
  sound = sound_by_index;
  log = log_pages_by_index;
  put = log_put_by_index;
  one_put = one_log_put;
  bad = first_bad_by_index;
  faults = image_faults_in_order;
  image = image_pages_by_index;
  loads = loads_end_alike;
}
