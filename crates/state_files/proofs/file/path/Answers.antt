use Rattle.state_files.proofs.Paths.{long_folder, long_name, no_room, path-laid}
use Rattle.state_files.proofs.file.path.Goals as goal

pub returns-then-folder-gt-MOST : goal.returns-then-folder-gt-MOST
returns-then-folder-gt-MOST c = long_folder _ _ _ c.if-folder-gt-MOST.true

pub returns-then-name-gt64 : goal.returns-then-name-gt64
returns-then-name-gt64 c = long_name _ _ _ c.if-folder-gt-MOST.false c.if-name-gt64.true

pub returns-then-out-folder : goal.returns-then-out-folder
returns-then-out-folder c = no_room _ _ _ c.if-folder-gt-MOST.false c.if-name-gt64.false c.if-out-folder.true

pub returns : goal.returns
returns c =
    path-laid _ _ _ c.if-folder-gt-MOST.false c.if-name-gt64.false _ _ c.if-out-folder.false c.put2.ensures c.put.ensures
