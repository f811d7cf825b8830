use Rattle.cas_http.proofs.ProgramJson.{read_from_its_json}
use Rattle.cas_http.proofs.laws.each_program_is_read_from_its_json.Goals as goal

pub returns : goal.returns
returns c = read_from_its_json
