-- One part of an image as the program holds it, and as the definitions have it. No contract of a question cites this file.
-- Assumes nothing.
use Rattle.table.specs.Image.{Head, Task, Label}
use Rattle.image_parts.specs.declared.Head.{Head as HeadHeld}
use Rattle.image_parts.specs.declared.Label.{Label as LabelHeld}
use Rattle.image_parts.specs.declared.Task.{Task as TaskHeld}

-- the head that was read
abbrev pub head_of : HeadHeld → Head
head_of r = record { cores = r.cores; tasks = r.tasks; labels = r.labels; chains = r.chains }

-- the task
abbrev pub task_of : TaskHeld → Task
task_of r = record { core = r.core; period = r.period }

-- the label
abbrev pub label_of : LabelHeld → Label
label_of r = record { writer = r.writer; readers = r.readers }
