pub mod SeenCourses
